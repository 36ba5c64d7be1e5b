-- The parts of a finished test that decide its counters and its levels.
use Rattle.std.specs.Prelude.{ℕ, Bool, false}
use Rattle.run_events_results.specs.declared.config.FlakyResult.{FlakyResult}
use Rattle.run_events_results.specs.declared.config.FlakyResult.TheVariants as flaky
use Rattle.run_events_results.specs.declared.results.ExecutionResultDescription.{ExecutionResultDescription}
use Rattle.run_events_results.specs.declared.view.FinishedTest.{FinishedTest}
use Rattle.run_events_results.specs.declared.view.TestView as declared

-- the parts of a finished test that decide its counters and its levels
pub record ViewedTest : Type 0 where
  -- the result of the last attempt
  pub result : ExecutionResultDescription
  -- the number of attempts
  pub attempts : ℕ
  -- whether the last attempt was slow
  pub is_slow : Bool
  -- how the test counts if it is flaky
  pub flaky_result : FlakyResult

-- a test with this result at its only attempt, which was not slow, and the setting that a flaky test counts as passed
abbrev pub only_attempt : ExecutionResultDescription → ViewedTest
only_attempt r = record { result = r; attempts = 1; is_slow = false; flaky_result = flaky.Pass }

-- the parts in a borrowed view
abbrev pub said_of : declared.TestView → ViewedTest
said_of v = record { result = v.result.now; attempts = v.attempts; is_slow = v.is_slow; flaky_result = v.flaky_result }

-- the parts of a finished test
abbrev pub finished_view : FinishedTest → ViewedTest
finished_view t = record { result = t.result; attempts = t.attempts; is_slow = t.is_slow; flaky_result = t.flaky_result }
