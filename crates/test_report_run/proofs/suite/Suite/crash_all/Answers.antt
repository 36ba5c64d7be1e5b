-- One more test is counted as crashed.
use Rattle.std.proofs.Common.{ap, map}
use Rattle.test_report_run_notes.specs.Note.{CrashView, HasCrashed, crash_view, note_view}
use Rattle.test_report_run.specs.Over.{with_failed}
use Rattle.test_report_run.specs.Running.{running_view}
use Rattle.test_report_run.specs.Suite.{SuiteState, state_of}
use Rattle.test_report_run.proofs.LoopSteps.{crash-counted, failed-told}
use Rattle.test_report_run.proofs.suite.Suite.crash_all.Goals as goal

pub loop-test-preserved : goal.loop-test-preserved
loop-test-preserved c =
    let one = c.in_ok-fail.ensures in
    let more = c.in_ok-self.field-0 in (
      crash-counted (state_of c.args.self.now) (state_of c.loop-test.self) (state_of c.fail.new.self) more c.loop-test.yielded c.in-Some.test
          c.loop-test.invariant.0 c.in_ok-self.ensures.more one.counts,
      failed-told (state_of c.args.self.now) (record (state_of c.loop-test.self) { crashed = more })
          (with_failed c.args.self.now.stats (running_view c.loop-test.yielded)) more
          (HasCrashed (crash_view c.args.crash.now)) (HasCrashed (crash_view c.in_ok-copy_of.field-0)) (map note_view c.args.notes.now.items)
          (map note_view c.loop-test.notes.items) (map note_view c.fail.new.notes.items) c.loop-test.yielded c.in-Some.test
          (ap (λ (s : SuiteState). record s { crashed = more }) c.loop-test.invariant.0)
          (ap (λ (crash : CrashView). HasCrashed crash) c.in_ok-copy_of.ensures) c.loop-test.invariant.1 one.tells,
    )
