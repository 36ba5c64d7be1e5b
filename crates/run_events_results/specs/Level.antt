-- The status level and the final level of a finished test.
use Rattle.std.specs.Prelude.{Bool, true, false, nat_lt, if◌then◌else◌, Option, Some, None}
use Rattle.run_events_results.specs.ViewedTest.{ViewedTest}
use Rattle.run_events_results.specs.Results.{succeeds}
use Rattle.run_events_results.specs.declared.config.FlakyResult.{FlakyResult}
use Rattle.run_events_results.specs.declared.config.FlakyResult.TheVariants as flaky
use Rattle.run_events_results.specs.declared.config.LeakTimeoutResult.TheVariants as leak
use Rattle.run_events_results.specs.declared.config.SlowTimeoutResult.TheVariants as slow
use Rattle.run_events_results.specs.declared.levels.StatusLevel.{StatusLevel}
use Rattle.run_events_results.specs.declared.levels.StatusLevel.TheVariants as level
use Rattle.run_events_results.specs.declared.levels.FinalStatusLevel.{FinalStatusLevel}
use Rattle.run_events_results.specs.declared.levels.FinalStatusLevel.TheVariants as final
use Rattle.run_events_results.specs.declared.results.ExecutionResultDescription.{ExecutionResultDescription}
use Rattle.run_events_results.specs.declared.results.ExecutionResultDescription.TheVariants as result

-- the level of a success at the first attempt, or `None` if the result is not a success
abbrev pub success_level : ExecutionResultDescription → Option StatusLevel
success_level result.Pass = Some level.Pass
success_level (result.Leak leak.Pass) = Some level.Leak
success_level (result.Timeout slow.Pass) = Some level.Slow
success_level _ = None

-- the level of a flaky test with this setting
abbrev pub flaky_level : FlakyResult → StatusLevel
flaky_level flaky.Pass = level.Retry
flaky_level flaky.Fail = level.Fail

-- the level of a finished test
abbrev pub level_of : ViewedTest → Option StatusLevel
level_of t =
    if succeeds t.result
    then (if nat_lt 1 t.attempts then Some (flaky_level t.flaky_result) else success_level t.result)
    else Some level.Fail

-- whether a level is `Fail`
abbrev pub is_level_fail : Option StatusLevel → Bool
is_level_fail (Some level.Fail) = true
is_level_fail _ = false

-- whether a level is `Retry`
abbrev pub is_level_retry : Option StatusLevel → Bool
is_level_retry (Some level.Retry) = true
is_level_retry _ = false

-- whether a test has the level `Fail`
abbrev pub has_level_fail : ViewedTest → Bool
has_level_fail t = is_level_fail (level_of t)

-- whether a test has the level `Retry`
abbrev pub has_level_retry : ViewedTest → Bool
has_level_retry t = is_level_retry (level_of t)

-- the final level of a success at the first attempt: a slow one is `Slow` whatever its result
abbrev pub final_success_level : ExecutionResultDescription → Bool → Option FinalStatusLevel
final_success_level r true = Some final.Slow
final_success_level result.Pass false = Some final.Pass
final_success_level (result.Leak leak.Pass) false = Some final.Leak
final_success_level (result.Timeout slow.Pass) false = Some final.Slow
final_success_level _ false = None

-- the final level of a flaky test with this setting
abbrev pub final_flaky_level : FlakyResult → FinalStatusLevel
final_flaky_level flaky.Pass = final.Flaky
final_flaky_level flaky.Fail = final.Fail

-- the final level of a finished test
abbrev pub final_level_of : ViewedTest → Option FinalStatusLevel
final_level_of t =
    if succeeds t.result
    then (if nat_lt 1 t.attempts then Some (final_flaky_level t.flaky_result) else final_success_level t.result t.is_slow)
    else Some final.Fail
