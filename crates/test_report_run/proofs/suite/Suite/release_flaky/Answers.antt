-- One more flaky test is counted.
use Rattle.std.proofs.Common.{map}
use Rattle.test_report_run_notes.specs.Note.{note_view}
use Rattle.test_report_run.specs.Suite.{state_of}
use Rattle.test_report_run.proofs.LoopSteps.{flaky-counted, flaky-told}
use Rattle.test_report_run.proofs.suite.Suite.release_flaky.Goals as goal

pub loop-flaky-preserved : goal.loop-flaky-preserved
loop-flaky-preserved c =
    let one = c.in_ok-count_flaky.ensures in (
      flaky-counted c.args.have_failed (state_of c.args.self.now) (state_of c.loop-flaky.self) (state_of c.count_flaky.new.self) c.loop-flaky.yielded
          c.in-Some.flaky c.loop-flaky.invariant.0 one.counts,
      flaky-told c.args.have_failed (state_of c.args.self.now) (state_of c.loop-flaky.self) (map note_view c.args.notes.now.items)
          (map note_view c.loop-flaky.notes.items) (map note_view c.count_flaky.new.notes.items) c.loop-flaky.yielded c.in-Some.flaky
          c.loop-flaky.invariant.0 c.loop-flaky.invariant.1 one.tells,
    )
