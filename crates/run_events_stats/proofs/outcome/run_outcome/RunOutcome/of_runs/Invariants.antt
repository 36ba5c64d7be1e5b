use Rattle.std.proofs.Common.{map, take}
use Rattle.run_events_stats.specs.Outcome.{IsHighest, outcome_of, run_summary}
use Rattle.run_events_stats.proofs.outcome.run_outcome.RunOutcome.of_runs.Given as goal

-- the highest outcome of the runs so far
abbrev pub invariant-loop-run : goal.invariant-loop-run
invariant-loop-run l = IsHighest (map (λ run. outcome_of (run_summary run)) (take l.run-index l.runs)) l.highest
