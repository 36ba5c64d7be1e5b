-- The attempts that a runner makes, and the units in its events.
use Rattle.std.specs.Prelude.{◌≡◌, ◌<◌, ◌^◌, ◌∷◌, ◌++◌, [], ℕ, Bool, List, Option, None, Some, length, map, option_and_then}
use Rattle.std.specs.List.{range_with_len}
use Rattle.run_events.specs.Counters.{ScriptUnit, TestUnit, UnitView}
use Rattle.run_events.specs.Described.{described_result}
use Rattle.run_events.specs.Attempts.{attempts_of, last_of, view_of}
use Rattle.run_events.specs.ViewedTest.{ViewedTest}
use Rattle.run_events_attempts.specs.declared.attempts.ExecuteStatus.{ExecuteStatus}
use Rattle.run_events_attempts.specs.declared.attempts.RetryData.{RetryData}
use Rattle.run_events_attempts.specs.declared.attempts.statuses.ExecutionStatuses.{ExecutionStatuses}
use Rattle.run_events_attempts.specs.declared.child.ChildExecutionOutputDescription.{ChildExecutionOutputDescription}
use Rattle.run_events_attempts.specs.declared.child.ChildExecutionOutputDescription.TheVariants as left
use Rattle.run_events_attempts.specs.declared.child.LiveSpec.{LiveSpec}
use Rattle.run_events_attempts.specs.declared.child.output.ChildOutputDescription.{ChildOutputDescription}
use Rattle.run_events_attempts.specs.declared.child.output.ChildOutputDescription.TheVariants.{Combined, NotLoaded, Split}
use Rattle.run_events_results.specs.declared.config.FlakyResult.{FlakyResult}
use Rattle.run_events.specs.declared.events.ReporterEvent.{ReporterEvent}
use Rattle.run_events.specs.declared.events.ReporterEvent.TheVariants as told
use Rattle.run_events.specs.declared.events.kind.TestEventKind.{TestEventKind}
use Rattle.run_events.specs.declared.events.kind.TestEventKind.TheVariants.{SetupScriptFinished, TestFinished}
use Rattle.run_events_stats.specs.declared.stats.RunStart.{RunStart}
use Rattle.run_events_results.specs.declared.results.ExecutionResult.{ExecutionResult}
use Rattle.uses.specs.declared.of_run_events.EndedAttempt.{EndedAttempt}

-- the view of a test with this many attempts, of which the last has this result
abbrev pub view_of_attempts : ℕ → ExecutionResult → Bool → FlakyResult → ViewedTest
view_of_attempts attempts outcome slow setting =
    record { result = described_result outcome None; attempts = attempts; is_slow = slow; flaky_result = setting }

-- the number of an attempt, counted from 1, of this total
abbrev pub numbered_of : ℕ → ℕ → RetryData
numbered_of total number = record { attempt = number; total_attempts = total }

-- the output of an attempt: its result, its standard error, no standard output, and no error
abbrev pub left_by : EndedAttempt → ChildExecutionOutputDescription LiveSpec ChildOutputDescription
left_by attempt = left.Output (Some (described_result attempt.outcome None)) (Split None (Some attempt.stderr.now)) None

-- the start of a run of one setup script and one test. No test was skipped, and the run was not cancelled
abbrev pub start_of_both : RunStart
start_of_both = record { initial_run_count = 1; setup_scripts_initial_count = 1; skipped = 0; cancel_reason = None }

-- the captured standard error; if both streams were captured as one, that one
abbrev pub stderr_in : ChildOutputDescription → Option (List ℕ)
stderr_in (Split stdout stderr) = stderr
stderr_in (Combined both) = Some both
stderr_in NotLoaded = None

-- the captured standard error of a process, or `None` if it was not started
abbrev pub stderr_of : ChildExecutionOutputDescription LiveSpec ChildOutputDescription → Option (List ℕ)
stderr_of (left.Output end output errors) = stderr_in output
stderr_of (left.StartError e) = None

-- the status of an attempt with this number is added at the end of a list
pub record AddsStatus (attempt : EndedAttempt) (number : RetryData) (old new : List (ExecuteStatus LiveSpec ChildOutputDescription)) : Type 0 where
  pub status : ExecuteStatus LiveSpec ChildOutputDescription
  pub items : new ≡ old ++ status ∷ []
  pub retry_data : status.retry_data ≡ number
  pub output : status.output ≡ left_by attempt
  pub stderr : stderr_of status.output ≡ Some attempt.stderr.now
  pub result : status.result ≡ described_result attempt.outcome None
  pub is_slow : status.is_slow ≡ attempt.is_slow

-- statuses of the first attempts of a test, numbered from 1, with this total
pub record HasStatuses (attempts : List EndedAttempt) (total : ℕ) (statuses : List (ExecuteStatus LiveSpec ChildOutputDescription)) : Type 0 where
  pub count : length statuses ≡ length attempts
  pub outputs : map (λ s. s.output) statuses ≡ map left_by attempts
  pub results : map (λ s. s.result) statuses ≡ map (λ a. described_result a.outcome None) attempts
  pub slow : map (λ s. s.is_slow) statuses ≡ map (λ a. a.is_slow) attempts
  pub numbers : length attempts < 2 ^ 32 → map (λ s. s.retry_data) statuses ≡ map (numbered_of total) (range_with_len 1 (length attempts))

-- the captured standard error of the last attempt
abbrev pub last_stderr : ExecutionStatuses LiveSpec ChildOutputDescription → Option (List ℕ)
last_stderr test = option_and_then (λ status. stderr_of status.output) (last_of (attempts_of test))

-- the finished unit in a kind of event
abbrev pub unit_of_kind : TestEventKind → Option UnitView
unit_of_kind (SetupScriptFinished index n total id program args success failure no_capture status) = Some (ScriptUnit status.result)
unit_of_kind (TestFinished index id success failure store_success store_failure flaky statuses stats running) = Some (TestUnit (view_of statuses))
unit_of_kind _ = None

-- the finished unit in an event
abbrev pub told_unit : ReporterEvent → Option UnitView
told_unit told.Tick = None
told_unit (told.Test event) = unit_of_kind event.value.kind
