use Rattle.run_events_stats.specs.Outcome.{outcome_of}
use Rattle.run_events_stats.proofs.SubRuns.{highest-sub_run}
use Rattle.run_events_stats.proofs.outcome.run_outcome.RunOutcome.of_sub_runs.Goals as goal

pub loop-summary-preserved : goal.loop-summary-preserved
loop-summary-preserved c =
    highest-sub_run outcome_of c.args.sub_runs.now c.loop-summary.summary-index _ c.loop-summary.highest _ _ c.loop-summary-test.true
    c.from_final_stats.ensures c.combine-highest.ensures.exact c.combine-highest.ensures.rank c.combine-highest.ensures.one_of_both
    c.loop-summary.invariant
