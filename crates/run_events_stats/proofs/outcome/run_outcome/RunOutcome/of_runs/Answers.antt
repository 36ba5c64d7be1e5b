use Rattle.std.proofs.Common.{ap, ◌∙◌}
use Rattle.run_events_stats.specs.Outcome.{outcome_of, run_summary}
use Rattle.run_events_stats.specs.Summary.{summary_of}
use Rattle.run_events_stats.proofs.SubRuns.{highest-sub_run}
use Rattle.run_events_stats.proofs.outcome.run_outcome.RunOutcome.of_runs.Goals as goal

pub loop-run-preserved : goal.loop-run-preserved
loop-run-preserved c =
    let outcome = c.from_final_stats.ensures ∙ ap outcome_of (c.summarize_final.ensures ∙ ap summary_of c.of_run-stats.ensures.counts)
    ∙ ap (λ run. outcome_of (run_summary run)) c.run-item.is in
    highest-sub_run (λ run. outcome_of (run_summary run)) c.args.runs.now c.loop-run.run-index _ c.loop-run.highest _ _ c.loop-run-test.true
    outcome c.combine-highest.ensures.exact c.combine-highest.ensures.rank c.combine-highest.ensures.one_of_both
    c.loop-run.invariant
