-- One more test without end is counted as failed.
use Rattle.std.proofs.Common.{map, refl}
use Rattle.test_report_run_notes.specs.Note.{HasNoEnd, note_view}
use Rattle.test_report_run.specs.Over.{with_failed}
use Rattle.test_report_run.specs.Running.{running_view}
use Rattle.test_report_run.specs.Suite.{state_of}
use Rattle.test_report_run.proofs.LoopSteps.{failed-told, lost-counted}
use Rattle.test_report_run.proofs.suite.Suite.fail_lost.Goals as goal

pub loop-test-preserved : goal.loop-test-preserved
loop-test-preserved c =
    let one = c.in_ok-fail.ensures in (
      lost-counted (state_of c.args.self.now) (state_of c.loop-test.self) (state_of c.fail.new.self) c.loop-test.yielded c.in-Some.test
          c.loop-test.invariant.0 one.counts,
      failed-told (state_of c.args.self.now) (state_of c.loop-test.self)
          (with_failed c.args.self.now.stats (running_view c.loop-test.yielded)) c.args.self.now.crashed HasNoEnd HasNoEnd
          (map note_view c.args.notes.now.items) (map note_view c.loop-test.notes.items) (map note_view c.fail.new.notes.items) c.loop-test.yielded
          c.in-Some.test c.loop-test.invariant.0 refl c.loop-test.invariant.1 one.tells,
    )
