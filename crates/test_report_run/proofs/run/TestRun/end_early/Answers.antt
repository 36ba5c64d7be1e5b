-- A suite ends early, with its running tests.
use Rattle.std.proofs.lemmas.Result.{on_ok_weaker}
use Rattle.test_report_run.specs.Over.{early_end_of}
use Rattle.test_report_run.specs.Run.{run_state}
use Rattle.test_report_run.specs.Suite.{state_of}
use Rattle.test_report_run.proofs.Runs.{ended-early}
use Rattle.test_report_run.proofs.run.TestRun.end_early.Goals as goal

pub returns : goal.returns
returns c =
    let left = c.in_ok-left.ensures in
    on_ok_weaker c.end_early.result
    (ended-early (early_end_of c.args.how.now) (run_state c.args.self.now) _ (state_of c.args.suite) _ _ _ left.taken (rw (left.left, left.started)))
    c.end_early.ensures
