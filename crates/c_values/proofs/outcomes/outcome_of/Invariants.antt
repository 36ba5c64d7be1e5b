use Rattle.std.proofs.Common.{All, IsSome, map, take}
use Rattle.c_values.specs.Layout.{final_in, outcome_in}
use Rattle.run_events_stats.specs.Outcome.{IsHighest}
use Rattle.c_values.proofs.outcomes.outcome_of.Given as goal

-- all sub-runs so far have a summary, and the highest of their outcomes is known
abbrev pub invariant-loop-sub_run : goal.invariant-loop-sub_run
invariant-loop-sub_run l =
    All (λ s. IsSome (final_in s)) (take l.sub_run-index l.sub_runs)
    × IsHighest (map outcome_in (take l.sub_run-index l.sub_runs)) l.highest
