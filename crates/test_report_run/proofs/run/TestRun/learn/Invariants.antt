-- Where notes are counted.
use Rattle.std.proofs.Common.{◌≡◌, map, take}
use Rattle.test_report_run_notes.specs.Note.{note_view}
use Rattle.test_report_run.specs.Run.{learned, run_state}
use Rattle.test_report_run.proofs.run.TestRun.learn.Given as goal

abbrev pub invariant-loop-note : goal.invariant-loop-note
invariant-loop-note l = run_state l.self ≡ learned (run_state l.fn.self) (map note_view (take l.note-index l.notes))
