-- How a test that finished counts.
use Rattle.std.specs.Prelude.{ℕ, Bool, false, pos}
use Rattle.run_events_results.specs.ViewedTest.{ViewedTest}
use Rattle.run_events_results.specs.declared.results.ExecutionResultDescription.{ExecutionResultDescription}
use Rattle.run_events_results.specs.declared.results.ExecutionResultDescription.TheVariants as described
use Rattle.run_events_results.specs.declared.results.FailureDescription.TheVariants as failure
use Rattle.run_events_results.specs.declared.config.FlakyResult.{FlakyResult}
use Rattle.run_events_results.specs.declared.config.FlakyResult.TheVariants as flaky
use Rattle.run_events_results.specs.declared.config.SlowTimeoutResult.TheVariants as slow
use Rattle.test_report_run_notes.specs.Note.{KindView, HasTimedOut, IsFlaky}
use Rattle.test_report_run_notes.specs.declared.finish.Finish.{Finish}
use Rattle.test_report_run_notes.specs.declared.finish.Finish.TheVariants.{Passed, FlakyFailed, Failed, TimedOut}

-- how a test finished that failed in this way
abbrev pub finish_for : KindView → Finish
finish_for HasTimedOut = TimedOut
finish_for IsFlaky = FlakyFailed
finish_for kind = Failed

-- the result of a test that finished in this way: a failure with the exit code of the harness
abbrev pub result_of : Finish → ExecutionResultDescription
result_of Passed = described.Pass
result_of FlakyFailed = described.Pass
result_of Failed = described.Fail (failure.ExitCode (pos 101)) false
result_of TimedOut = described.Timeout slow.Fail

-- how it counts if it is flaky
abbrev pub flaky_result_of : Finish → FlakyResult
flaky_result_of Passed = flaky.Pass
flaky_result_of FlakyFailed = flaky.Fail
flaky_result_of Failed = flaky.Pass
flaky_result_of TimedOut = flaky.Pass

-- what decides the counters of a test that finished in this way, after this number of attempts, and whether it was slow
abbrev pub view_of_finish : Finish → ℕ → Bool → ViewedTest
view_of_finish how attempts slow = record { result = result_of how; attempts = attempts; is_slow = slow; flaky_result = flaky_result_of how }
