-- The values in the structs of C. A struct has no value if one of its codes is not in its table.
use Rattle.std.specs.Prelude.{◌≡◌, ◌≢◌, ◌≤◌, ◌⊎◌, ◌+◌, ◌*◌, ◌-◌, ◌<◌, ◌^◌, ℕ, Bool, if◌then◌else◌, nat_lt, ◌==◌, List, [], ◌∷◌, length, slice_get, Option, None, Some, IsSomeAnd, option_and_then, option_map, unwrap_or}
use Rattle.c_values.specs.Codes.{displays, final_levels, flaky_results, levels, outcomes, reasons, results, stores}
use Rattle.c_values.specs.declared.layout.FfiDuration.{FfiDuration}
use Rattle.c_values.specs.declared.layout.FfiFailedCounts.{FfiFailedCounts}
use Rattle.c_values.specs.declared.layout.FfiFinalStats.{FfiFinalStats}
use Rattle.c_values.specs.declared.layout.FfiFinishedTest.{FfiFinishedTest}
use Rattle.c_values.specs.declared.layout.FfiHead.{FfiHead}
use Rattle.c_values.specs.declared.layout.FfiOutput.{FfiOutput}
use Rattle.c_values.specs.declared.layout.FfiResult.{FfiResult}
use Rattle.c_values.specs.declared.layout.FfiRunStats.{FfiRunStats}
use Rattle.c_values.specs.declared.layout.FfiSlice.{FfiSlice}
use Rattle.c_values.specs.declared.layout.FfiStressProgress.{FfiStressProgress}
use Rattle.c_values.specs.declared.layout.FfiStressRemaining.{FfiStressRemaining}
use Rattle.c_values.specs.declared.layout.FfiTestView.{FfiTestView}
use Rattle.output_slice.specs.Extraction.{Extract, error_slice, note_line, panic_slice}
use Rattle.output_slice.specs.declared.panic_head.HeadSpan.{HeadSpan}
use Rattle.run_events_results.specs.ViewedTest.{ViewedTest}
use Rattle.run_events_results.specs.Visibility.{Asked, asked_of, visibility}
use Rattle.run_events_results.specs.declared.levels.OutputOnTestFinished.{OutputOnTestFinished}
use Rattle.run_events_results.specs.declared.levels.StatusLevels.{StatusLevels}
use Rattle.run_events_results.specs.declared.results.ExecutionResultDescription.{ExecutionResultDescription}
use Rattle.run_events.specs.Progress.{Left, above_zero, endless, nanos, sub_runs}
use Rattle.run_events_stats.specs.Counters.{with_script, with_test}
use Rattle.run_events_stats.specs.Outcome.{combined, last_summary, outcome_of}
use Rattle.run_events_stats.specs.Summary.{failed_scripts, failed_tests}
use Rattle.run_events_stats.specs.declared.outcome.FinalRunStats.{FinalRunStats}
use Rattle.run_events_stats.specs.declared.outcome.FinalRunStats.TheVariants as summary
use Rattle.run_events_stats.specs.declared.outcome.RunStatsFailureKind.{RunStatsFailureKind}
use Rattle.run_events_stats.specs.declared.outcome.RunStatsFailureKind.TheVariants as kind
use Rattle.run_events_stats.specs.declared.outcome.finished.StressFinalRunStats.{StressFinalRunStats}
use Rattle.run_events_stats.specs.declared.outcome.finished.StressFinalRunStats.TheVariants as stress
use Rattle.run_events_stats.specs.declared.outcome.run_outcome.RunOutcome.{RunOutcome}
use Rattle.run_events_stats.specs.declared.outcome.run_outcome.RunOutcome.TheVariants as outcome
use Rattle.run_events_stats.specs.declared.stats.RunStats.{RunStats}

-- the value at a code in a list, if there is one
abbrev pub named : {A : Type 0} → List (Option A) → ℕ → Option A
named values code = option_and_then (λ value. value) (slice_get values code)

-- a stream, if it was captured
abbrev pub captured : Bool → List ℕ → Option (List ℕ)
captured is_captured stream = if is_captured then Some stream else None

-- the struct for a part that was found, or for none
abbrev pub slice_out : Option Extract → FfiSlice
slice_out None = record { kind = 0; start = 0; length = 0 }
slice_out (Some (panic_slice x)) = record { kind = 1; start = x.start; length = length x.bytes }
slice_out (Some (error_slice x)) = record { kind = 2; start = x.start; length = length x.bytes }
slice_out (Some (note_line x)) = record { kind = 3; start = x.start; length = length x.bytes }

-- no part was found, or the part is not empty and lies within the captured stream that its kind names
abbrev pub LiesWithin : Option (List ℕ) → Option (List ℕ) → FfiSlice → Type 0
LiesWithin out err s =
    (s.kind ≡ 0) ⊎ ((0 < s.length) × IsSomeAnd (if s.kind == 3 then out else err) (λ stream. s.start + s.length ≤ length stream))

-- a number of reads as it is written: at most 2^64 - 1
abbrev pub reads_out : ℕ → ℕ
reads_out reads = if nat_lt reads (2 ^ 64) then reads else 2 ^ 64 - 1

-- the head
abbrev pub head_in : FfiHead → Option HeadSpan
head_in h = if h.is_found then Some (record { start = h.start; stop = h.stop }) else None

-- what is displayed and stored of a finished test, read from the struct that was written
abbrev pub output_in : FfiOutput → Option OutputOnTestFinished
output_in o = option_map (λ stored. record {
  write_status_line = o.write_status_line;
  show_immediate = o.show_immediate;
  store_final = stored;
}) (slice_get stores o.store_final)

-- the result of an attempt
abbrev pub result_in : FfiResult → Option ExecutionResultDescription
result_in r = slice_get (results r.number) r.kind

-- the part of a finished test that decides its counters and its levels
abbrev pub view_in : FfiTestView → Option ViewedTest
view_in v = option_and_then (λ ended. option_map (λ setting. record {
  result = ended;
  attempts = v.attempts;
  is_slow = v.is_slow;
  flaky_result = setting;
}) (slice_get flaky_results v.flaky_result)) (result_in v.result)

-- the levels of the reporter
abbrev pub own_levels_in : FfiFinishedTest → Option StatusLevels
own_levels_in t = option_and_then (λ level. option_map (λ final. record { status_level = level; final_status_level = final })
    (slice_get final_levels t.final_status_level)) (slice_get levels t.status_level)

-- what the reporter shows of a finished test if the run is not cancelled
abbrev pub asked_in : FfiFinishedTest → Option Asked
asked_in t =
    option_and_then (λ own.
    option_and_then (λ display.
    option_and_then (λ level.
    option_and_then (λ final.
    option_map (asked_of own display level final) (result_in t.result))
    (slice_get final_levels t.test_final_status_level))
    (slice_get levels t.test_status_level))
    (slice_get displays t.display))
    (own_levels_in t)

-- what is displayed and stored of a finished test
abbrev pub visibility_in : FfiFinishedTest → Option OutputOnTestFinished
visibility_in t = option_and_then (λ asked. option_map (visibility asked) (slice_get reasons t.cancel_reason)) (asked_in t)

-- the counters of a run
abbrev pub stats_in : FfiRunStats → Option RunStats
stats_in s = option_map (λ why. record {
  initial_run_count = s.initial_run_count;
  finished_count = s.finished_count;
  setup_scripts_initial_count = s.setup_scripts_initial_count;
  setup_scripts_finished_count = s.setup_scripts_finished_count;
  setup_scripts_passed = s.setup_scripts_passed;
  setup_scripts_failed = s.setup_scripts_failed;
  setup_scripts_exec_failed = s.setup_scripts_exec_failed;
  setup_scripts_timed_out = s.setup_scripts_timed_out;
  passed = s.passed;
  passed_slow = s.passed_slow;
  passed_timed_out = s.passed_timed_out;
  flaky = s.flaky;
  failed = s.failed;
  failed_slow = s.failed_slow;
  failed_timed_out = s.failed_timed_out;
  leaky = s.leaky;
  leaky_failed = s.leaky_failed;
  exec_failed = s.exec_failed;
  skipped = s.skipped;
  cancel_reason = why;
}) (slice_get reasons s.cancel_reason)

-- the counters with one more finished test
abbrev pub test_counted : FfiRunStats → FfiTestView → Option RunStats
test_counted s t = option_and_then (λ stats. option_map (λ view. with_test stats view) (view_in t)) (stats_in s)

-- the counters with one more finished setup script
abbrev pub script_counted : FfiRunStats → FfiResult → Option RunStats
script_counted s r = option_and_then (λ stats. option_map (λ ended. with_script stats ended) (result_in r)) (stats_in s)

-- the numbers of tests and of setup scripts that did not pass
abbrev pub failures_of : RunStats → FfiFailedCounts
failures_of s = record { tests = failed_tests s; setup_scripts = failed_scripts s }

-- the step of a failure or a cancellation, with its numbers
abbrev pub kind_in : FfiFinalStats → Option RunStatsFailureKind
kind_in f = slice_get (kind.Test f.initial_run_count f.not_run ∷ kind.SetupScript ∷ []) f.step

-- a cancellation, with its reason and its step
abbrev pub cancelled_in : FfiFinalStats → Option FinalRunStats
cancelled_in f = option_and_then (λ why. option_map (λ step. summary.Cancelled why step) (kind_in f)) (slice_get reasons f.reason)

-- a failure, with its step
abbrev pub failed_in : FfiFinalStats → Option FinalRunStats
failed_in f = option_map (λ step. summary.Failed step) (kind_in f)

-- the summary of a finished run
abbrev pub final_in : FfiFinalStats → Option FinalRunStats
final_in f = named (Some summary.NoTestsRun ∷ Some summary.Success ∷ cancelled_in f ∷ failed_in f ∷ []) f.kind

-- members that the kind and the step do not have are 0
pub record HasNoMore (f : FfiFinalStats) : Type 0 where
  pub reason : f.kind ≢ 2 → f.reason ≡ 0
  pub step : f.kind < 2 → f.step ≡ 0
  pub counts : (f.kind < 2) ⊎ (f.step ≡ 1) → (f.initial_run_count ≡ 0) × (f.not_run ≡ 0)

-- the outcome of a sub-run; if it has no value, `NoTestsRun`, which changes no outcome
abbrev pub outcome_in : FfiFinalStats → RunOutcome
outcome_in f = unwrap_or (option_map outcome_of (final_in f)) outcome.NoTestsRun

-- the higher of two outcomes
abbrev pub combined_in : ℕ → ℕ → Option RunOutcome
combined_in a b = option_and_then (λ outcome. option_map (combined outcome) (slice_get outcomes b)) (slice_get outcomes a)

-- the summary of a repeated run, from the number of its sub-runs that were counted as failed and the summary of the last one
abbrev pub stress_summary_in : ℕ → FinalRunStats → StressFinalRunStats
stress_summary_in failed last = if nat_lt 0 failed then stress.Failed else last_summary last

-- a step and its numbers, with 0 in the other members
pub record IsStepAlone (f : FfiFinalStats) : Type 0 where
  pub kind : f.kind ≡ 0
  pub reason : f.reason ≡ 0
  pub counts : f.step ≡ 1 → (f.initial_run_count ≡ 0) × (f.not_run ≡ 0)

-- a duration in nanoseconds
abbrev pub duration_in : FfiDuration → Option ℕ
duration_in d = if nat_lt d.nanoseconds 1_000_000_000 then Some (d.seconds * 1_000_000_000 + d.nanoseconds) else None

-- what remains of a run that is repeated a number of times, after the completed sub-runs; it has no value if that number is
-- 0
abbrev pub left_of_count : FfiStressProgress → Option (Option Left)
left_of_count p = if p.total_count == 0 then None else Some (above_zero sub_runs (p.total_count - p.completed))

-- what remains of a run that is repeated for a time, of which `elapsed` nanoseconds have elapsed
abbrev pub left_of_time : ℕ → FfiStressProgress → Option (Option Left)
left_of_time elapsed p = option_map (λ total. above_zero nanos (total - elapsed)) (duration_in p.total)

-- what remains of a repeated run
abbrev pub left_after : FfiStressProgress → Option (Option Left)
left_after p = option_and_then (λ elapsed.
    named (left_of_count p ∷ Some (Some endless) ∷ left_of_time elapsed p ∷ []) p.kind) (duration_in p.elapsed)

-- what remains of a repeated run, read from the struct that was written
abbrev pub left_in : FfiStressRemaining → Option (Option Left)
left_in r = named (Some (Some (sub_runs r.count)) ∷ Some (Some endless)
    ∷ option_map (λ time. Some (nanos time)) (duration_in r.time) ∷ Some None ∷ []) r.kind

-- members that the kind does not have are 0
pub record HasOnlyItsKind (r : FfiStressRemaining) : Type 0 where
  pub count : r.kind ≢ 0 → r.count ≡ 0
  pub time : r.kind ≢ 2 → (r.time.seconds ≡ 0) × (r.time.nanoseconds ≡ 0)
