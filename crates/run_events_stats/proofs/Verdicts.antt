-- Each finished test is counted in one way, and so is each finished script.
use Rattle.std.proofs.Common.{◌≡◌, ◌+◌, ◌<◌, ◌^◌, List, length, Bool, true, cond, not, ◌&&◌, ◌||◌, refl, arith}
use Rattle.std.specs.Prelude.{Option, Some}
use Rattle.run_events_stats.specs.Counters.{UnitView, count_of, is_exec_failed, is_failed, is_failed_timed_out, is_flaky, is_passed, script_exec_failed, script_failed, script_of, script_passed, script_timed_out, scripts_of, stats_of, test_of, tests_of, was_retried}
use Rattle.run_events_results.specs.Level.{flaky_level, has_level_fail, has_level_retry, is_level_fail, is_level_retry, success_level}
use Rattle.run_events_results.specs.Results.{succeeds, is_leak_fail, is_fail, is_exec_fail, is_timeout_fail, flaky_fails}
use Rattle.run_events_stats.specs.RunLaws.{has_no_failure}
use Rattle.run_events_stats.specs.Summary.{FailuresFit}
use Rattle.run_events_results.specs.ViewedTest.{ViewedTest}
use Rattle.run_events_results.specs.declared.config.FlakyResult.{FlakyResult}
use Rattle.run_events_results.specs.declared.config.FlakyResult.TheVariants as flaky
use Rattle.run_events_results.specs.declared.config.LeakTimeoutResult.TheVariants as leak
use Rattle.run_events_results.specs.declared.config.SlowTimeoutResult.TheVariants as slow
use Rattle.run_events_results.specs.declared.levels.StatusLevel.{StatusLevel}
use Rattle.run_events_results.specs.declared.levels.StatusLevel.TheVariants as level
use Rattle.run_events_results.specs.declared.results.ExecutionResultDescription.{ExecutionResultDescription}
use Rattle.run_events_results.specs.declared.results.ExecutionResultDescription.TheVariants as result
use Rattle.run_events_stats.specs.declared.stats.RunStart.{RunStart}
use Rattle.run_events_stats.proofs.Counts.{one, count_of-le, count_of-not, count_of-same, count_of-three, length-filter_map-le}

-- the level of a test with this last result, retried or not, with this setting
abbrev level_by : ExecutionResultDescription → Bool → FlakyResult → Option StatusLevel
level_by r retried setting = cond (succeeds r) (cond retried (Some (flaky_level setting)) (success_level r)) (Some level.Fail)

-- such a test is counted in one failure counter if its level is `Fail`, and otherwise in `passed`; and in `flaky` if its
-- level is `Retry`
counted_by : (r : ExecutionResultDescription) (retried : Bool) (setting : FlakyResult)
    → (one ((succeeds r && retried && flaky_fails setting) || is_leak_fail r || is_fail r) + one (is_exec_fail r) + one (is_timeout_fail r) ≡ one
    (is_level_fail (level_by r retried setting)))
    × ((succeeds r && not (retried && flaky_fails setting)) ≡ not (is_level_fail (level_by r retried setting)))
    × ((succeeds r && retried && not (flaky_fails setting)) ≡ is_level_retry (level_by r retried setting))
counted_by result.Pass true flaky.Pass = (refl, refl, refl)
counted_by (result.Leak leak.Pass) true flaky.Pass = (refl, refl, refl)
counted_by (result.Timeout slow.Pass) true flaky.Pass = (refl, refl, refl)
counted_by _ _ _ = (refl, refl, refl)

-- a test is counted in one of the three failure counters if and only if its level is `Fail`
one_failure : (t : ViewedTest) → one (is_failed t) + one (is_exec_failed t) + one (is_failed_timed_out t) ≡ one (has_level_fail t)
one_failure t = (counted_by t.result (was_retried t) t.flaky_result).0

-- the failure counters of tests count the tests of level `Fail`
pub failed-level : (tests : List ViewedTest)
    → count_of is_failed tests + count_of is_exec_failed tests + count_of is_failed_timed_out tests ≡ count_of has_level_fail tests
failed-level tests = count_of-three is_failed is_exec_failed is_failed_timed_out has_level_fail one_failure tests

-- `passed` counts the tests whose level is not `Fail`
pub passed-level : (tests : List ViewedTest) → count_of is_passed tests ≡ count_of has_no_failure tests
passed-level tests = count_of-same is_passed has_no_failure (λ t. (counted_by t.result (was_retried t) t.flaky_result).1) tests

-- `flaky` counts the tests of level `Retry`
pub flaky-level : (tests : List ViewedTest) → count_of is_flaky tests ≡ count_of has_level_retry tests
flaky-level tests = count_of-same is_flaky has_level_retry (λ t. (counted_by t.result (was_retried t) t.flaky_result).2) tests

-- a finished test passed or failed
pub tests-verdicts : (tests : List ViewedTest)
    → count_of is_passed tests + (count_of is_failed tests + count_of is_exec_failed tests + count_of is_failed_timed_out tests) ≡ length tests
tests-verdicts tests = omega (arith, failed-level tests, passed-level tests, count_of-not has_level_fail tests)

one_script_failure : (r : ExecutionResultDescription)
    → one (script_failed r) + one (script_exec_failed r) + one (script_timed_out r) ≡ one (not (script_passed r))
one_script_failure (result.Leak leak.Pass) = refl
one_script_failure (result.Timeout slow.Pass) = refl
one_script_failure _ = refl

-- the failure counters of scripts count the scripts that did not pass
pub failed-scripts : (scripts : List ExecutionResultDescription)
    → count_of script_failed scripts + count_of script_exec_failed scripts + count_of script_timed_out scripts ≡ count_of (λ r. not (script_passed r)) scripts
failed-scripts scripts = count_of-three script_failed script_exec_failed script_timed_out (λ r. not (script_passed r)) one_script_failure scripts

-- a finished script passed or failed
pub scripts-verdicts : (scripts : List ExecutionResultDescription)
    → count_of script_passed scripts + (count_of script_failed scripts + count_of script_exec_failed scripts + count_of script_timed_out scripts)
    ≡ length scripts
scripts-verdicts scripts = omega (arith, failed-scripts scripts, count_of-not script_passed scripts)

-- the sums of failures fit if the length of the list does
pub failures-fit : (us : List UnitView) (start : RunStart) → length us < 2 ^ 64 → FailuresFit (stats_of us start)
failures-fit us start short = record {
  tests = omega (arith, failed-level (tests_of us), count_of-le has_level_fail (tests_of us), length-filter_map-le test_of us);
  scripts = omega (arith, failed-scripts (scripts_of us), count_of-le (λ r. not (script_passed r)) (scripts_of us), length-filter_map-le script_of us);
}
