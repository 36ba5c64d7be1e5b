use Rattle.std.proofs.Common.{map, subst, take_all}
use Rattle.run_digest_engine.specs.Counted.{AreStats}
use Rattle.run_digest_engine.specs.RunReports.{run_view}
use Rattle.run_digest_engine.proofs.Reports.{stats_more}
use Rattle.run_digest_engine.proofs.runs.stats_of_runs.Goals as goal

pub loop-run-preserved : goal.loop-run-preserved
loop-run-preserved c = rw c.in_ok-push.ensures.items
    (stats_more c.args.runs.now c.loop-run.run-index c.run-item.result c.loop-run.all.items c.stats_of_run.result c.loop-run-test.true c.run-item.is
    c.loop-run.invariant c.stats_of_run.ensures.is c.stats_of_run.ensures.fit)

pub returns : goal.returns
returns c = subst (λ runs. AreStats c.loop-run.all.items (map run_view runs))
    (take_all c.loop-run.run-index c.args.runs.now c.loop-run-test.false) c.loop-run.invariant
