-- Where the open suites end early.
use Rattle.std.proofs.Common.{◌≡◌, map, []}
use Rattle.std.specs.List.{fold}
use Rattle.test_report_run_notes.specs.Note.{note_view}
use Rattle.test_report_run.specs.Over.{early_end_of}
use Rattle.test_report_run.specs.Run.{ended_early, run_state, step}
use Rattle.test_report_run.proofs.Runs.{boxed_state}
use Rattle.test_report_run.proofs.run.TestRun.end_suites.Given as goal

abbrev pub invariant-loop-suite : goal.invariant-loop-suite
invariant-loop-suite l =
    step (run_state l.self) (map note_view l.notes.items)
    ≡ fold (ended_early (early_end_of l.fn.how)) (step (record (run_state l.fn.self) { suites = [] }) (map note_view l.fn.notes.items))
    (map boxed_state l.yielded)
