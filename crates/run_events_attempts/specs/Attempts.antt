-- The attempts of a test, and the parts of them that decide how it counts.
use Rattle.std.specs.Prelude.{◌≡◌, ◌<◌, ◌≤◌, ◌⊎◌, ◌-◌, ℕ, false, List, Option, codes, length, slice_get}
use Rattle.std.specs.Option.{option_map_or}
use Rattle.run_events_results.specs.declared.config.FlakyResult.{FlakyResult}
use Rattle.run_events_results.specs.declared.results.ExecutionResultDescription.TheVariants.{Pass}
use Rattle.run_events_attempts.specs.declared.attempts.ExecuteStatus.{ExecuteStatus}
use Rattle.run_events_attempts.specs.declared.attempts.RetryData.{RetryData}
use Rattle.run_events_attempts.specs.declared.attempts.statuses.ExecutionStatuses.{ExecutionStatuses}
use Rattle.run_events_attempts.specs.declared.attempts.statuses.ExecutionStatusesIter.{ExecutionStatusesIter}
use Rattle.run_events_results.specs.ViewedTest.{ViewedTest}

-- the attempts of a test, in order
abbrev pub attempts_of : {S D : Type 0} → ExecutionStatuses S D → List (ExecuteStatus S D)
attempts_of t = t.statuses.items

-- how the test counts if it is flaky
abbrev pub flaky_result_of : {S D : Type 0} → ExecutionStatuses S D → FlakyResult
flaky_result_of t = t.flaky_result

-- the last element of a list, or `None` if the list is empty
abbrev pub last_of : {A : Type 0} → List A → Option A
last_of xs = slice_get xs (length xs - 1)

-- The view of a test. A test always has a last attempt, so the default values are never used.
abbrev pub view_of : {S D : Type 0} → ExecutionStatuses S D → ViewedTest
view_of t =
    let last = last_of (attempts_of t) in
    record {
      result = option_map_or (λ s. s.result) last Pass;
      attempts = length (attempts_of t);
      is_slow = option_map_or (λ s. s.is_slow) last false;
      flaky_result = flaky_result_of t;
    }

-- the text of the error if a list of attempts is empty
abbrev pub empty_statuses_text : List ℕ
empty_statuses_text = codes "a finished test has at least one attempt, but the list of attempts is empty"

-- the attempts that are left to visit, in order
abbrev pub attempts_left : {S D : Type 0} → ExecutionStatusesIter S D → List (ExecuteStatus S D)
attempts_left iter = iter.rest.now

-- the attempt a is at most b: its number is less, or its number is the same and its total is at most that of b
abbrev pub IsNoLaterAttempt : RetryData → RetryData → Type 0
IsNoLaterAttempt a b = (a.attempt < b.attempt) ⊎ ((a.attempt ≡ b.attempt) × (a.total_attempts ≤ b.total_attempts))
