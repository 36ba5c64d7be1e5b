use Rattle.std.proofs.Common.{◌∙◌, All, IsSome, ap, refl, subst, sym, option_map}
use Rattle.std.specs.Option.{unwrap_or}
use Rattle.std.proofs.lemmas.List.{take_more}
use Rattle.std.proofs.lemmas.List.Elements.{All-push}
use Rattle.c_values.specs.Layout.{final_in, outcome_in}
use Rattle.c_values.specs.declared.layout.FfiFinalStats.{FfiFinalStats}
use Rattle.run_events_stats.proofs.SubRuns.{highest-sub_run}
use Rattle.run_events_stats.specs.Outcome.{outcome_of}
use Rattle.run_events_stats.specs.declared.outcome.run_outcome.RunOutcome.TheVariants as outcome
use Rattle.c_values.proofs.outcomes.outcome_of.Goals as goal

-- one more sub-run: it has a summary, and its outcome is combined with the highest so far
pub loop-sub_run-preserved : goal.loop-sub_run-preserved
loop-sub_run-preserved c =
    let within = c.loop-sub_run-test.true in
    let next = c.from_final_stats.ensures ∙ ap (λ s. unwrap_or (option_map outcome_of s) outcome.NoTestsRun) c.in_ok-summary.ensures in
    let has_summary : FfiFinalStats → Type 0 = λ s. IsSome (final_in s) in (
      subst (All has_summary) (sym (take_more c.args.sub_runs.now c.loop-sub_run.sub_run-index _ within))
          (All-push has_summary _ _ c.loop-sub_run.invariant.0 (subst IsSome c.in_ok-summary.ensures refl)),
      highest-sub_run outcome_in c.args.sub_runs.now c.loop-sub_run.sub_run-index _ c.loop-sub_run.highest _ _ within
          next c.combine-highest.ensures.exact c.combine-highest.ensures.rank c.combine-highest.ensures.one_of_both
          c.loop-sub_run.invariant.1,
    )
