-- The counters of a run: each is the number of finished units that its rule holds of.
use Rattle.std.specs.Prelude.{◌<◌, ◌^◌, ◌+◌, ℕ, Bool, not, ◌&&◌, ◌||◌, if◌then◌else◌, List, length, filter, nat_lt, Option, Some, None}
use Rattle.std.specs.List.{filter_map}
use Rattle.run_events_attempts.specs.Attempts.{view_of}
use Rattle.run_events_results.specs.ViewedTest.{ViewedTest}
use Rattle.run_events_results.specs.CancelReasons.{reason_rank}
use Rattle.run_events_results.specs.Results.{succeeds, is_pass, is_leak_pass, is_leak_fail, is_fail, is_exec_fail, is_timeout_pass, is_timeout_fail, flaky_fails}
use Rattle.run_events_results.specs.declared.results.CancelReason.{CancelReason}
use Rattle.run_events_results.specs.declared.results.ExecutionResultDescription.{ExecutionResultDescription}
use Rattle.run_events_stats.specs.declared.stats.FinishedUnit.{FinishedUnit}
use Rattle.run_events_stats.specs.declared.stats.FinishedUnit.TheVariants.{Script, Test}
use Rattle.run_events_stats.specs.declared.stats.RunStats.{RunStats}
use Rattle.run_events_stats.specs.declared.stats.RunStart.{RunStart}

-- there was an attempt before the last
abbrev pub was_retried : ViewedTest → Bool
was_retried t = nat_lt 1 t.attempts

-- it succeeded after a retry, and its setting fails flaky tests
abbrev pub fails_as_flaky : ViewedTest → Bool
fails_as_flaky t = succeeds t.result && was_retried t && flaky_fails t.flaky_result

-- `passed`: it succeeded, and is not a flaky test that counts as failed
abbrev pub is_passed : ViewedTest → Bool
is_passed t = succeeds t.result && not (was_retried t && flaky_fails t.flaky_result)

-- `failed`: it is flaky and counts as failed, or it failed, or it leaked and that counts as failed
abbrev pub is_failed : ViewedTest → Bool
is_failed t = fails_as_flaky t || is_leak_fail t.result || is_fail t.result

-- `exec_failed`: it could not be executed
abbrev pub is_exec_failed : ViewedTest → Bool
is_exec_failed t = is_exec_fail t.result

-- `failed_timed_out`: it ran out of time, and that counts as failed
abbrev pub is_failed_timed_out : ViewedTest → Bool
is_failed_timed_out t = is_timeout_fail t.result

-- `flaky`: it succeeded after a retry, and its setting passes flaky tests
abbrev pub is_flaky : ViewedTest → Bool
is_flaky t = succeeds t.result && was_retried t && not (flaky_fails t.flaky_result)

-- `leaky`: it leaked and that counts as passed, even if it is flaky and counts as failed
abbrev pub is_leaky : ViewedTest → Bool
is_leaky t = is_leak_pass t.result

-- `leaky_failed`: it leaked, and that counts as failed
abbrev pub is_leaky_failed : ViewedTest → Bool
is_leaky_failed t = is_leak_fail t.result

-- `passed_slow`: it is counted in `passed`, is slow, and did not run out of time
abbrev pub is_passed_slow : ViewedTest → Bool
is_passed_slow t = is_passed t && t.is_slow && (is_pass t.result || is_leak_pass t.result)

-- `passed_timed_out`: it is counted in `passed`, and ran out of time
abbrev pub is_passed_timed_out : ViewedTest → Bool
is_passed_timed_out t = is_passed t && is_timeout_pass t.result

-- `failed_slow`: it is counted in `failed`, and is slow
abbrev pub is_failed_slow : ViewedTest → Bool
is_failed_slow t = is_failed t && t.is_slow

-- `setup_scripts_passed`: it passed, or leaked and that counts as passed
abbrev pub script_passed : ExecutionResultDescription → Bool
script_passed r = is_pass r || is_leak_pass r

-- `setup_scripts_failed`: it failed, or leaked and that counts as failed
abbrev pub script_failed : ExecutionResultDescription → Bool
script_failed r = is_fail r || is_leak_fail r

-- `setup_scripts_exec_failed`: it could not be executed
abbrev pub script_exec_failed : ExecutionResultDescription → Bool
script_exec_failed r = is_exec_fail r

-- `setup_scripts_timed_out`: it ran out of time, even if that counts as passed
abbrev pub script_timed_out : ExecutionResultDescription → Bool
script_timed_out r = is_timeout_pass r || is_timeout_fail r

-- the part of a finished unit that decides the counters: the result of a script, or the view of a test
pub data UnitView : Type 0 where
  ScriptUnit : ExecutionResultDescription → UnitView
  TestUnit : ViewedTest → UnitView

-- the view of a finished unit
abbrev pub unit_view : FinishedUnit → UnitView
unit_view (Script s) = ScriptUnit s.now.result
unit_view (Test t) = TestUnit (view_of t.now)

-- the view of a test, if the unit is one
abbrev pub test_of : UnitView → Option ViewedTest
test_of (ScriptUnit r) = None
test_of (TestUnit t) = Some t

-- the result of a script, if the unit is one
abbrev pub script_of : UnitView → Option ExecutionResultDescription
script_of (ScriptUnit r) = Some r
script_of (TestUnit t) = None

-- the tests among finished units, in order
abbrev pub tests_of : List UnitView → List ViewedTest
tests_of units = filter_map test_of units

-- the results of the scripts among finished units, in order
abbrev pub scripts_of : List UnitView → List ExecutionResultDescription
scripts_of units = filter_map script_of units

-- the number of elements of a list for which a rule holds
abbrev pub count_of : {A : Type 0} → (A → Bool) → List A → ℕ
count_of rule xs = length (filter rule xs)

-- the statistics of a run with these finished tests and scripts
abbrev pub counters_of : List ViewedTest → List ExecutionResultDescription → RunStart → RunStats
counters_of tests scripts start = record {
  initial_run_count = start.initial_run_count;
  finished_count = length tests;
  setup_scripts_initial_count = start.setup_scripts_initial_count;
  setup_scripts_finished_count = length scripts;
  setup_scripts_passed = count_of script_passed scripts;
  setup_scripts_failed = count_of script_failed scripts;
  setup_scripts_exec_failed = count_of script_exec_failed scripts;
  setup_scripts_timed_out = count_of script_timed_out scripts;
  passed = count_of is_passed tests;
  passed_slow = count_of is_passed_slow tests;
  passed_timed_out = count_of is_passed_timed_out tests;
  flaky = count_of is_flaky tests;
  failed = count_of is_failed tests;
  failed_slow = count_of is_failed_slow tests;
  failed_timed_out = count_of is_failed_timed_out tests;
  leaky = count_of is_leaky tests;
  leaky_failed = count_of is_leaky_failed tests;
  exec_failed = count_of is_exec_failed tests;
  skipped = start.skipped;
  cancel_reason = start.cancel_reason;
}

-- the statistics of finished units
abbrev pub stats_of : List UnitView → RunStart → RunStats
stats_of units start = counters_of (tests_of units) (scripts_of units) start

-- the start of a run of which nothing is known
abbrev pub nothing_known : RunStart
nothing_known = record { initial_run_count = 0; setup_scripts_initial_count = 0; skipped = 0; cancel_reason = None }

-- the statistics with 0 in every counter, and no reason to cancel
abbrev pub all_zero : RunStats
all_zero = record {
  initial_run_count = 0;
  finished_count = 0;
  setup_scripts_initial_count = 0;
  setup_scripts_finished_count = 0;
  setup_scripts_passed = 0;
  setup_scripts_failed = 0;
  setup_scripts_exec_failed = 0;
  setup_scripts_timed_out = 0;
  passed = 0;
  passed_slow = 0;
  passed_timed_out = 0;
  flaky = 0;
  failed = 0;
  failed_slow = 0;
  failed_timed_out = 0;
  leaky = 0;
  leaky_failed = 0;
  exec_failed = 0;
  skipped = 0;
  cancel_reason = None;
}

-- a counter, raised by 1 if the rule holds
abbrev pub plus_if : ℕ → Bool → ℕ
plus_if n holds = n + (if holds then 1 else 0)

-- the statistics after one more test, except `finished_count`: each counter whose rule holds for the test is raised by 1
abbrev pub with_result : RunStats → ViewedTest → RunStats
with_result s t = record s {
  passed = plus_if s.passed (is_passed t);
  passed_slow = plus_if s.passed_slow (is_passed_slow t);
  passed_timed_out = plus_if s.passed_timed_out (is_passed_timed_out t);
  flaky = plus_if s.flaky (is_flaky t);
  failed = plus_if s.failed (is_failed t);
  failed_slow = plus_if s.failed_slow (is_failed_slow t);
  failed_timed_out = plus_if s.failed_timed_out (is_failed_timed_out t);
  leaky = plus_if s.leaky (is_leaky t);
  leaky_failed = plus_if s.leaky_failed (is_leaky_failed t);
  exec_failed = plus_if s.exec_failed (is_exec_failed t);
}

-- the statistics after one more test: `finished_count` and each counter whose rule holds for the test are raised by 1
abbrev pub with_test : RunStats → ViewedTest → RunStats
with_test s t = record (with_result s t) {
  finished_count = s.finished_count + 1;
}

-- the statistics with `failed` raised by 1, and also `failed_slow` if the test is slow
abbrev pub with_failed : RunStats → Bool → RunStats
with_failed s is_slow = record s {
  failed = s.failed + 1;
  failed_slow = plus_if s.failed_slow is_slow;
}

-- the statistics after one more script: `setup_scripts_finished_count` and the counter of its result are raised by 1
abbrev pub with_script : RunStats → ExecutionResultDescription → RunStats
with_script s r = record s {
  setup_scripts_finished_count = s.setup_scripts_finished_count + 1;
  setup_scripts_passed = plus_if s.setup_scripts_passed (script_passed r);
  setup_scripts_failed = plus_if s.setup_scripts_failed (script_failed r);
  setup_scripts_exec_failed = plus_if s.setup_scripts_exec_failed (script_exec_failed r);
  setup_scripts_timed_out = plus_if s.setup_scripts_timed_out (script_timed_out r);
}

-- the greater of two reasons to cancel a run; no reason is less than any
abbrev pub greater_of : Option CancelReason → Option CancelReason → Option CancelReason
greater_of None other = other
greater_of (Some one) None = Some one
greater_of (Some one) (Some two) = if nat_lt (reason_rank one) (reason_rank two) then Some two else Some one

-- the statistics of both parts: each counter is the sum of both
abbrev pub sum_of : RunStats → RunStats → RunStats
sum_of a b = record {
  initial_run_count = a.initial_run_count + b.initial_run_count;
  finished_count = a.finished_count + b.finished_count;
  setup_scripts_initial_count = a.setup_scripts_initial_count + b.setup_scripts_initial_count;
  setup_scripts_finished_count = a.setup_scripts_finished_count + b.setup_scripts_finished_count;
  setup_scripts_passed = a.setup_scripts_passed + b.setup_scripts_passed;
  setup_scripts_failed = a.setup_scripts_failed + b.setup_scripts_failed;
  setup_scripts_exec_failed = a.setup_scripts_exec_failed + b.setup_scripts_exec_failed;
  setup_scripts_timed_out = a.setup_scripts_timed_out + b.setup_scripts_timed_out;
  passed = a.passed + b.passed;
  passed_slow = a.passed_slow + b.passed_slow;
  passed_timed_out = a.passed_timed_out + b.passed_timed_out;
  flaky = a.flaky + b.flaky;
  failed = a.failed + b.failed;
  failed_slow = a.failed_slow + b.failed_slow;
  failed_timed_out = a.failed_timed_out + b.failed_timed_out;
  leaky = a.leaky + b.leaky;
  leaky_failed = a.leaky_failed + b.leaky_failed;
  exec_failed = a.exec_failed + b.exec_failed;
  skipped = a.skipped + b.skipped;
  cancel_reason = greater_of a.cancel_reason b.cancel_reason;
}

-- the start of a run in two parts
abbrev pub start_of_both : RunStart → RunStart → RunStart
start_of_both a b = record {
  initial_run_count = a.initial_run_count + b.initial_run_count;
  setup_scripts_initial_count = a.setup_scripts_initial_count + b.setup_scripts_initial_count;
  skipped = a.skipped + b.skipped;
  cancel_reason = greater_of a.cancel_reason b.cancel_reason;
}

-- each counter of tests fits `usize`
pub record TestCountersFit (s : RunStats) : Type 0 where
  pub finished_count : s.finished_count < 2 ^ 64
  pub passed : s.passed < 2 ^ 64
  pub passed_slow : s.passed_slow < 2 ^ 64
  pub passed_timed_out : s.passed_timed_out < 2 ^ 64
  pub flaky : s.flaky < 2 ^ 64
  pub failed : s.failed < 2 ^ 64
  pub failed_slow : s.failed_slow < 2 ^ 64
  pub failed_timed_out : s.failed_timed_out < 2 ^ 64
  pub leaky : s.leaky < 2 ^ 64
  pub leaky_failed : s.leaky_failed < 2 ^ 64
  pub exec_failed : s.exec_failed < 2 ^ 64

-- each counter of scripts fits `usize`
pub record ScriptCountersFit (s : RunStats) : Type 0 where
  pub finished : s.setup_scripts_finished_count < 2 ^ 64
  pub passed : s.setup_scripts_passed < 2 ^ 64
  pub failed : s.setup_scripts_failed < 2 ^ 64
  pub exec_failed : s.setup_scripts_exec_failed < 2 ^ 64
  pub timed_out : s.setup_scripts_timed_out < 2 ^ 64

-- each counter fits `usize`
pub record CountersFit (s : RunStats) : Type 0 where
  pub initial_run_count : s.initial_run_count < 2 ^ 64
  pub setup_scripts_initial_count : s.setup_scripts_initial_count < 2 ^ 64
  pub skipped : s.skipped < 2 ^ 64
  pub tests : TestCountersFit s
  pub scripts : ScriptCountersFit s
