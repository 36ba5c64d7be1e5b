-- Where the running tests are counted as crashed.
use Rattle.std.proofs.Common.{◌≡◌, ◌+◌, ◌++◌, length, map}
use Rattle.test_report_run_notes.specs.Note.{HasCrashed, crash_view, note_view}
use Rattle.test_report_run.specs.Over.{failed_notes, with_failed}
use Rattle.test_report_run.specs.Running.{running_view}
use Rattle.test_report_run.specs.Suite.{state_of}
use Rattle.test_report_run.proofs.suite.Suite.crash_all.Given as goal

abbrev pub invariant-loop-test : goal.invariant-loop-test
invariant-loop-test l =
    (state_of l.self ≡ record (state_of l.fn.self) {
      stats = with_failed l.fn.self.stats (running_view l.yielded);
      crashed = l.fn.self.crashed + length l.yielded;
    })
    × (map note_view l.notes.items ≡ map note_view l.fn.notes.items
    ++ failed_notes (state_of l.fn.self) (HasCrashed (crash_view l.crash)) (running_view l.yielded))
