-- The outcomes of runs and sub-runs, and the summary of a repeated run.
use Rattle.std.specs.Prelude.{◌≡◌, ◌≤◌, ◌⊎◌, ℕ, Bool, true, false, if◌then◌else◌, nat_le, nat_lt, List, [], map, All, Contains}
use Rattle.run_events_stats.specs.Counters.{stats_of, unit_view}
use Rattle.run_events_stats.specs.Summary.{summary_of}
use Rattle.run_events_stats.specs.declared.outcome.FinalRunStats.{FinalRunStats}
use Rattle.run_events_stats.specs.declared.outcome.FinalRunStats.TheVariants as summary
use Rattle.run_events_stats.specs.declared.outcome.RunFailureStep.{RunFailureStep}
use Rattle.run_events_stats.specs.declared.outcome.RunFailureStep.TheVariants as step
use Rattle.run_events_stats.specs.declared.outcome.RunStatsFailureKind.{RunStatsFailureKind}
use Rattle.run_events_stats.specs.declared.outcome.RunStatsFailureKind.TheVariants as kind
use Rattle.run_events_stats.specs.declared.outcome.finished.RunFinishedStats.{RunFinishedStats}
use Rattle.run_events_stats.specs.declared.outcome.finished.RunFinishedStats.TheVariants.{Single, Stress}
use Rattle.run_events_stats.specs.declared.outcome.finished.StressFinalRunStats.{StressFinalRunStats}
use Rattle.run_events_stats.specs.declared.outcome.finished.StressFinalRunStats.TheVariants as stress
use Rattle.run_events_stats.specs.declared.outcome.finished.StressRunStats.{StressRunStats}
use Rattle.run_events_stats.specs.declared.outcome.run_outcome.RunOutcome.{RunOutcome}
use Rattle.run_events_stats.specs.declared.outcome.run_outcome.RunOutcome.TheVariants as outcome
use Rattle.run_events_stats.specs.declared.stats.FinishedRun.{FinishedRun}

-- the order of steps, as numbers
abbrev pub step_rank : RunFailureStep → ℕ
step_rank step.Test = 0
step_rank step.SetupScript = 1

-- the step of a failure, without its numbers
abbrev pub step_of : RunStatsFailureKind → RunFailureStep
step_of kind.SetupScript = step.SetupScript
step_of (kind.Test initial_run_count not_run) = step.Test

-- whether a summary is that of a successful run
abbrev pub summary_succeeds : FinalRunStats → Bool
summary_succeeds summary.Success = true
summary_succeeds summary.NoTestsRun = false
summary_succeeds (summary.Cancelled reason kind) = false
summary_succeeds (summary.Failed kind) = false

-- the outcome of one run: the case and the step of its summary
abbrev pub outcome_of : FinalRunStats → RunOutcome
outcome_of summary.Success = outcome.Success
outcome_of summary.NoTestsRun = outcome.NoTestsRun
outcome_of (summary.Cancelled reason kind) = outcome.Cancelled (step_of kind)
outcome_of (summary.Failed kind) = outcome.Failed (step_of kind)

-- the summary of a run, from its units and its start
abbrev pub run_summary : FinishedRun → FinalRunStats
run_summary run = summary_of (stats_of (map unit_view run.units.now) run.start)

-- the order of outcomes, as numbers
abbrev pub outcome_rank : RunOutcome → ℕ
outcome_rank outcome.NoTestsRun = 0
outcome_rank outcome.Success = 1
outcome_rank (outcome.Cancelled step.Test) = 2
outcome_rank (outcome.Cancelled step.SetupScript) = 3
outcome_rank (outcome.Failed step.Test) = 4
outcome_rank (outcome.Failed step.SetupScript) = 5

-- of two outcomes, the one of the greater rank
abbrev pub combined : RunOutcome → RunOutcome → RunOutcome
combined a b = if nat_le (outcome_rank a) (outcome_rank b) then b else a

-- the outcome of the greatest rank, or `NoTestsRun` if there are no outcomes
abbrev pub IsHighest : List RunOutcome → RunOutcome → Type 0
IsHighest outcomes o =
    ((outcomes ≡ []) × (o ≡ outcome.NoTestsRun))
    ⊎ (Contains outcomes o × All (λ other. outcome_rank other ≤ outcome_rank o) outcomes)

-- the summary of a repeated run whose last sub-run has this summary, if no sub-run was counted as failed
abbrev pub last_summary : FinalRunStats → StressFinalRunStats
last_summary summary.Success = stress.Success
last_summary summary.NoTestsRun = stress.NoTestsRun
last_summary (summary.Cancelled reason kind) = stress.Cancelled
last_summary (summary.Failed kind) = stress.Success

-- the summary of a repeated run
abbrev pub stress_summary_of : StressRunStats → StressFinalRunStats
stress_summary_of s = if nat_lt 0 s.failed_count then stress.Failed else last_summary s.last_final_stats

-- the summary of a run, or of the last sub-run
abbrev pub final_stats_of : RunFinishedStats → FinalRunStats
final_stats_of (Single stats) = summary_of stats
final_stats_of (Stress stats) = stats.last_final_stats
