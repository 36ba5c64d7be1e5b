-- Where tests without end are counted as failed.
use Rattle.std.proofs.Common.{◌≡◌, ◌++◌, map}
use Rattle.test_report_run_notes.specs.Note.{HasNoEnd, note_view}
use Rattle.test_report_run.specs.Over.{failed_notes, with_failed}
use Rattle.test_report_run.specs.Running.{running_view}
use Rattle.test_report_run.specs.Suite.{state_of}
use Rattle.test_report_run.proofs.suite.Suite.fail_lost.Given as goal

abbrev pub invariant-loop-test : goal.invariant-loop-test
invariant-loop-test l =
    (state_of l.self ≡ record (state_of l.fn.self) { stats = with_failed l.fn.self.stats (running_view l.yielded) })
    × (map note_view l.notes.items ≡ map note_view l.fn.notes.items
    ++ failed_notes (state_of l.fn.self) HasNoEnd (running_view l.yielded))
