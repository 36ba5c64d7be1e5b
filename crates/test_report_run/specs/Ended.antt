-- The end of a test of a suite.
use Rattle.std.specs.Prelude.{◌+◌, ◌∷◌, [], ℕ, List, Bool, false, codes, nat_lt, if◌then◌else◌, Option}
use Rattle.std.specs.List.{insert, position_or_len}
use Rattle.std.specs.Option.{option_map_or}
use Rattle.std.specs.Str.{bytes_eq}
use Rattle.test_report_events.specs.Event.{TestEndView}
use Rattle.test_report_events.specs.declared.event.TestResult.TheVariants.{Ok, Failed, Ignored}
use Rattle.test_report_run_notes.specs.Finish.{finish_for}
use Rattle.test_report_run_notes.specs.Note.{FailureView, Fails, FlakyEnds, HasFailed, HasTimedOut, IsSkipped, NoteView, Passes}
use Rattle.test_report_run_notes.specs.declared.finish.Finish.TheVariants as finish
use Rattle.test_report_run.specs.Said.{time_sum_of}
use Rattle.test_report_run.specs.Suite.{FlakyView, OverView, SuiteState, named, test_note, test_of, with_finish}

-- the reason says that the test ran out of time
abbrev pub is_time_limit : Option (List ℕ) → Bool
is_time_limit reason = option_map_or (λ r. bytes_eq r (codes "time limit exceeded")) reason false

-- how a test failed, by the line of its end
abbrev pub failure_of : TestEndView → FailureView
failure_of e = record {
  kind = if is_time_limit e.reason then HasTimedOut else HasFailed;
  stdout = e.stdout;
  message = e.message;
  reason = e.reason;
}

-- the flaky test started after the test with this number
abbrev pub starts_later : ℕ → FlakyView → Bool
starts_later order f = nat_lt order f.order

-- one more flaky test among others, in the order in which they started
abbrev pub with_flaky : FlakyView → List FlakyView → List FlakyView
with_flaky f flaky = insert flaky (position_or_len (starts_later f.order) flaky) f

-- the suite after the end of a test that failed
abbrev pub after_failed : SuiteState → OverView → TestEndView → SuiteState
after_failed s t e = with_finish s (finish_for (failure_of e).kind) t.attempts t.slow

-- the suite after a flaky test passed. How the test counts is known when the suite ends
abbrev pub after_flaky : SuiteState → OverView → ℕ → TestEndView → SuiteState
after_flaky s t order e = record s {
  flaky = with_flaky record { test = t; order = order; stdout = e.stdout; message = e.message } s.flaky;
}

-- what becomes known of a flaky test when it passed
abbrev pub flaky_end : SuiteState → OverView → TestEndView → List NoteView
flaky_end s t e = FlakyEnds (test_of s t (Passes e.stdout)) ∷ []

-- what becomes known of a test that failed
abbrev pub failed_note : SuiteState → OverView → TestEndView → List NoteView
failed_note s t e = test_note s t (Fails (failure_of e)) ∷ []

-- the suite with the time of one more test
abbrev pub timed : SuiteState → TestEndView → SuiteState
timed s e = record s { time = time_sum_of s.time e.time }

-- the suite after the end of a test
abbrev pub after_end : SuiteState → OverView → ℕ → TestEndView → SuiteState
after_end s t order e = elim e.result as (λ _. SuiteState) [
  | Ok ↦ if nat_lt 1 t.attempts then after_flaky (timed s e) t order e else with_finish (timed s e) finish.Passed 1 t.slow
  | Failed ↦ after_failed (timed s e) t e
  | Ignored ↦ record s { skipped = s.skipped + 1 }
]

-- what becomes known at the end of a test. How a flaky test counts is not known before its suite ends
abbrev pub end_notes : SuiteState → OverView → TestEndView → List NoteView
end_notes s t e = elim e.result as (λ _. List NoteView) [
  | Ok ↦ if nat_lt 1 t.attempts then flaky_end s t e else test_note s t (Passes e.stdout) ∷ []
  | Failed ↦ failed_note s t e
  | Ignored ↦ test_note s t (IsSkipped e.message) ∷ []
]

-- the suite after the end of a test that was not running
abbrev pub after_stray : SuiteState → OverView → TestEndView → SuiteState
after_stray s t e = after_end (named s t.name) t 0 e

-- what becomes known at the end of a test that was not running
abbrev pub stray_notes : SuiteState → OverView → TestEndView → List NoteView
stray_notes s t e = end_notes (named s t.name) t e
