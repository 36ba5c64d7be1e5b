-- Where tests without end are skipped or stopped.
use Rattle.std.proofs.Common.{◌≡◌, ◌++◌, None, if◌then◌else◌, map}
use Rattle.test_report_run_notes.specs.Note.{IsSkipped, IsStopped, note_view}
use Rattle.test_report_run.specs.Over.{over_of}
use Rattle.test_report_run.specs.Running.{running_view}
use Rattle.test_report_run.specs.Suite.{state_of, test_note}
use Rattle.test_report_run.proofs.suite.Suite.push_left.Given as goal

abbrev pub invariant-loop-test : goal.invariant-loop-test
invariant-loop-test l = map note_view l.notes.items ≡ map note_view l.fn.notes.items
    ++ map (λ t. test_note (state_of l.fn.self) (over_of (state_of l.fn.self) t) (if l.are_skipped then IsSkipped None else IsStopped)) (running_view l.yielded)
