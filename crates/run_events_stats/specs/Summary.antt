-- The summary of a run by its counters.
use Rattle.std.specs.Prelude.{◌-◌, ◌+◌, ◌<◌, ◌^◌, ℕ, Bool, true, false, ◌||◌, if◌then◌else◌, nat_lt, ◌==◌, Option, Some, None}
use Rattle.run_events_results.specs.declared.results.CancelReason.{CancelReason}
use Rattle.run_events_results.specs.declared.results.CancelReason.TheVariants as reason
use Rattle.run_events_stats.specs.declared.stats.RunStats.{RunStats}
use Rattle.run_events_stats.specs.declared.outcome.RunStatsFailureKind.{RunStatsFailureKind}
use Rattle.run_events_stats.specs.declared.outcome.RunStatsFailureKind.TheVariants.{SetupScript, Test}
use Rattle.run_events_stats.specs.declared.outcome.FinalRunStats.{FinalRunStats}
use Rattle.run_events_stats.specs.declared.outcome.FinalRunStats.TheVariants.{Success, NoTestsRun, Cancelled, Failed}

-- the number of tests that did not pass
abbrev pub failed_tests : RunStats → ℕ
failed_tests s = s.failed + s.exec_failed + s.failed_timed_out

-- the number of setup scripts that did not pass
abbrev pub failed_scripts : RunStats → ℕ
failed_scripts s = s.setup_scripts_failed + s.setup_scripts_exec_failed + s.setup_scripts_timed_out

-- both sums of failures fit `usize`
pub record FailuresFit (s : RunStats) : Type 0 where
  pub tests : failed_tests s < 2 ^ 64
  pub scripts : failed_scripts s < 2 ^ 64

-- a test did not pass: one of the three counters of failed tests is above 0
abbrev pub any_test_failed : RunStats → Bool
any_test_failed s = nat_lt 0 s.failed || nat_lt 0 s.exec_failed || nat_lt 0 s.failed_timed_out

-- a setup script did not pass: one of the three counters of failed scripts is above 0
abbrev pub any_script_failed : RunStats → Bool
any_script_failed s = nat_lt 0 s.setup_scripts_failed || nat_lt 0 s.setup_scripts_exec_failed || nat_lt 0 s.setup_scripts_timed_out

-- whether a run with a failure and this reason is `Failed`: there is no reason, or the reason is a failure
abbrev pub reason_is_failure : Option CancelReason → Bool
reason_is_failure None = true
reason_is_failure (Some reason.SetupScriptFailure) = true
reason_is_failure (Some reason.TestFailure) = true
reason_is_failure (Some reason.TestFailureImmediate) = true
reason_is_failure _ = false

-- the summary of a run with a failure at a step: `Failed`, or `Cancelled` if the reason is not a failure
abbrev pub failure : Option CancelReason → RunStatsFailureKind → FinalRunStats
failure why kind = if reason_is_failure why then Failed kind else Cancelled why kind

-- the step of the tests, with how many were to run and how many of them did not finish
abbrev pub tests_step : RunStats → RunStatsFailureKind
tests_step s = Test s.initial_run_count (s.initial_run_count - s.finished_count)

-- the summary of a run, by the first line that applies
abbrev pub summary_of : RunStats → FinalRunStats
summary_of s =
    if any_script_failed s then failure s.cancel_reason SetupScript
    else if nat_lt s.setup_scripts_finished_count s.setup_scripts_initial_count then Cancelled s.cancel_reason SetupScript
    else if any_test_failed s then failure s.cancel_reason (tests_step s)
    else if nat_lt s.finished_count s.initial_run_count then Cancelled s.cancel_reason (tests_step s)
    else if s.finished_count == 0 then NoTestsRun
    else Success
