-- One more test is skipped or stopped.
use Rattle.std.proofs.Common.{None, if◌then◌else◌, map}
use Rattle.test_report_run_notes.specs.Note.{IsSkipped, IsStopped, note_view, outcome_view}
use Rattle.test_report_run.specs.Suite.{over_view, state_of}
use Rattle.test_report_run.proofs.LoopSteps.{left-told}
use Rattle.test_report_run.proofs.suite.Suite.push_left.Goals as goal

pub loop-test-preserved : goal.loop-test-preserved
loop-test-preserved c =
    left-told (state_of c.args.self.now) (over_view c.over.result) (if c.args.are_skipped then IsSkipped None else IsStopped)
    (outcome_view c.outcome_of_left.result) (map note_view c.args.notes.now.items) (map note_view c.loop-test.notes.items)
    (map note_view c.push_test.new.notes.items) c.loop-test.yielded c.in-Some.test c.over.ensures c.outcome_of_left.ensures c.loop-test.invariant
    c.in_ok-push_test.ensures
