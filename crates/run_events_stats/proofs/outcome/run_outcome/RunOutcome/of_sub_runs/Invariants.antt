use Rattle.std.proofs.Common.{map, take}
use Rattle.run_events_stats.specs.Outcome.{IsHighest, outcome_of}
use Rattle.run_events_stats.proofs.outcome.run_outcome.RunOutcome.of_sub_runs.Given as goal

-- the highest outcome of the sub-runs so far
abbrev pub invariant-loop-summary : goal.invariant-loop-summary
invariant-loop-summary l = IsHighest (map outcome_of (take l.summary-index l.sub_runs)) l.highest
