-- The sums at the end of a run count its tests.
use Rattle.std.proofs.Common.{◌≡◌, ◌∙◌, ℕ, List, ◌+◌, Bool, true, false, cond, ◌&&◌, refl, ap, arith, length, length-take, take, subst, sym}
use Rattle.std.specs.List.{count_by, fold, sum_by}
use Rattle.std.specs.Prelude.{if◌then◌else◌, nat_lt}
use Rattle.run_events_stats.specs.Counters.{with_test}
use Rattle.run_events_stats.specs.Outcome.{combined}
use Rattle.run_events_stats.specs.Summary.{failed_tests}
use Rattle.run_events_stats.specs.declared.stats.RunStats.{RunStats}
use Rattle.test_report_events.specs.Event.{EventView, TestEndView}
use Rattle.test_report_events.specs.declared.event.TestResult.{TestResult}
use Rattle.test_report_events.specs.declared.event.TestResult.TheVariants.{Ok, Failed, Ignored}
use Rattle.test_report_run_notes.specs.Finish.{finish_for, view_of_finish}
use Rattle.test_report_run_notes.specs.Note.{Fails, HasTimedOut, IsFlaky, IsSkipped, IsStopped, KindView, NoteView, OutcomeView, Passes, TestIs, TestNoteView}
use Rattle.test_report_laws.proofs.Books.{HoldsAll, holds-whole, sums_in, sums_of}
use Rattle.test_report_laws.proofs.Counters.{early-suite, exactly, fits, fits_kind, last-suite, of_suite, of_test, sum-of, total, with_outcome}
use Rattle.test_report_laws.proofs.EndSums as ends
use Rattle.test_report_laws.proofs.EndSums.{last_by}
use Rattle.test_report_laws.proofs.Sums.{sum-both, sum-same}
use Rattle.test_report_run.specs.Running.{RunningView}
use Rattle.test_report_laws.specs.Run.{Counts, TotalsAreCounts, failed_in, fails_by, has_passed, is_crash, is_test, is_timed_out, not_run_in, not_run_of, passed_in, was_skipped}
use Rattle.test_report_run.specs.Ended.{after_end, end_notes}
use Rattle.test_report_run.specs.Suite.{OverView, SuiteState}
use Rattle.test_report_laws.proofs.Types.{Explanation}
use Rattle.test_report_run.specs.Run.{RunSettings, has_failed, run_start, with_note}
use Rattle.test_report_run.specs.Totals.{ending, no_suites}
use Rattle.test_report_laws.specs.Whole.{all_notes, run_after_files}
use Rattle.run_events_stats.specs.declared.outcome.RunFailureStep.TheVariants as step
use Rattle.run_events_stats.specs.declared.outcome.run_outcome.RunOutcome.{RunOutcome}
use Rattle.run_events_stats.specs.declared.outcome.run_outcome.RunOutcome.TheVariants as outcome

-- a rule as a weight
abbrev one : Bool → ℕ
one b = cond b 1 0

-- `passed`
passed-kind : (stats : RunStats) (kind : KindView) (n : ℕ) (slow : Bool) → fits_kind kind n ≡ true
    → (with_test stats (view_of_finish (finish_for kind) n slow)).passed ≡ stats.passed + 0
passed-kind stats IsFlaky n slow fit = grind (arith, fit)
passed-kind stats kind n slow fit = refl

abbrev pub passed_weight : OutcomeView → ℕ → Bool → ℕ
passed_weight outcome n slow = one (has_passed outcome)

pub passed-counts : (stats : RunStats) (outcome : OutcomeView) (n : ℕ) (slow : Bool) → fits outcome n ≡ true
    → (with_outcome stats outcome n slow).passed ≡ stats.passed + passed_weight outcome n slow
passed-counts stats (Passes output) n slow fit = grind arith
passed-counts stats (IsSkipped reason) n slow fit = omega arith
passed-counts stats IsStopped n slow fit = omega arith
passed-counts stats (Fails f) n slow fit = passed-kind stats f.kind n slow fit

-- `finished_count`
abbrev pub finished_weight : OutcomeView → ℕ → Bool → ℕ
finished_weight outcome n slow = one (has_passed outcome) + one (has_failed outcome)

pub finished-counts : (stats : RunStats) (outcome : OutcomeView) (n : ℕ) (slow : Bool) → fits outcome n ≡ true
    → (with_outcome stats outcome n slow).finished_count ≡ stats.finished_count + finished_weight outcome n slow
finished-counts stats (Passes output) n slow fit = refl
finished-counts stats (IsSkipped reason) n slow fit = omega arith
finished-counts stats IsStopped n slow fit = omega arith
finished-counts stats (Fails f) n slow fit = refl

-- `flaky`
abbrev flaky_weight : OutcomeView → ℕ → Bool → ℕ
flaky_weight outcome n slow = one (has_passed outcome && nat_lt 1 n)

flaky-kind : (stats : RunStats) (kind : KindView) (n : ℕ) (slow : Bool) → (with_test stats (view_of_finish (finish_for kind) n slow)).flaky ≡ stats.flaky + 0
flaky-kind stats IsFlaky n slow = grind arith
flaky-kind stats kind n slow = refl

flaky-counts : (stats : RunStats) (outcome : OutcomeView) (n : ℕ) (slow : Bool) → fits outcome n ≡ true
    → (with_outcome stats outcome n slow).flaky ≡ stats.flaky + flaky_weight outcome n slow
flaky-counts stats (Passes output) n slow fit = grind arith
flaky-counts stats (IsSkipped reason) n slow fit = omega arith
flaky-counts stats IsStopped n slow fit = omega arith
flaky-counts stats (Fails f) n slow fit = flaky-kind stats f.kind n slow

-- `passed_slow`
abbrev slow_weight : OutcomeView → ℕ → Bool → ℕ
slow_weight outcome n slow = one (has_passed outcome && slow)

slow-kind : (stats : RunStats) (kind : KindView) (n : ℕ) (slow : Bool) → fits_kind kind n ≡ true
    → (with_test stats (view_of_finish (finish_for kind) n slow)).passed_slow ≡ stats.passed_slow + 0
slow-kind stats IsFlaky n slow fit = grind (arith, fit)
slow-kind stats kind n slow fit = refl

slow-counts : (stats : RunStats) (outcome : OutcomeView) (n : ℕ) (slow : Bool) → fits outcome n ≡ true
    → (with_outcome stats outcome n slow).passed_slow ≡ stats.passed_slow + slow_weight outcome n slow
slow-counts stats (Passes output) n slow fit = grind arith
slow-counts stats (IsSkipped reason) n slow fit = omega arith
slow-counts stats IsStopped n slow fit = omega arith
slow-counts stats (Fails f) n slow fit = slow-kind stats f.kind n slow fit

-- `failed_timed_out`
abbrev timed_out_weight : OutcomeView → ℕ → Bool → ℕ
timed_out_weight outcome n slow = one (fails_by is_timed_out outcome)

timed_out-kind : (stats : RunStats) (kind : KindView) (n : ℕ) (slow : Bool)
    → (with_test stats (view_of_finish (finish_for kind) n slow)).failed_timed_out ≡ stats.failed_timed_out + one (is_timed_out kind)
timed_out-kind stats HasTimedOut n slow = refl
timed_out-kind stats kind n slow = refl

timed_out-counts : (stats : RunStats) (outcome : OutcomeView) (n : ℕ) (slow : Bool) → fits outcome n ≡ true
    → (with_outcome stats outcome n slow).failed_timed_out ≡ stats.failed_timed_out + timed_out_weight outcome n slow
timed_out-counts stats (Passes output) n slow fit = refl
timed_out-counts stats (IsSkipped reason) n slow fit = omega arith
timed_out-counts stats IsStopped n slow fit = omega arith
timed_out-counts stats (Fails f) n slow fit = timed_out-kind stats f.kind n slow

-- the three counters of failed tests together
abbrev pub failed_weight : OutcomeView → ℕ → Bool → ℕ
failed_weight outcome n slow = one (has_failed outcome)

failed-kind : (stats : RunStats) (kind : KindView) (n : ℕ) (slow : Bool) → fits_kind kind n ≡ true
    → failed_tests (with_test stats (view_of_finish (finish_for kind) n slow)) ≡ failed_tests stats + 1
failed-kind stats IsFlaky n slow fit = grind (arith, fit)
failed-kind stats kind n slow fit = omega arith

pub failed-counts : (stats : RunStats) (outcome : OutcomeView) (n : ℕ) (slow : Bool) → fits outcome n ≡ true
    → failed_tests (with_outcome stats outcome n slow) ≡ failed_tests stats + failed_weight outcome n slow
failed-counts stats (Passes output) n slow fit = grind arith
failed-counts stats (IsSkipped reason) n slow fit = omega arith
failed-counts stats IsStopped n slow fit = omega arith
failed-counts stats (Fails f) n slow fit = failed-kind stats f.kind n slow fit

-- the tests that crashed
abbrev pub crashed_weight : OutcomeView → ℕ → Bool → ℕ
crashed_weight outcome n slow = one (fails_by is_crash outcome)

abbrev crashed_said : NoteView → ℕ
crashed_said note = of_suite (λ s. s.crashed) note

end-crash : (s : SuiteState) (t : OverView) (order : ℕ) (e : TestEndView) (how : TestResult)
    → sum_by (of_test crashed_weight) (end_notes s t (record e { result = how })) + s.crashed
    ≡ sum_by crashed_said (end_notes s t (record e { result = how })) + (after_end s t order (record e { result = how })).crashed
end-crash s t order e Ok = grind arith
end-crash s t order e Failed = grind arith
end-crash s t order e Ignored = refl

crashed-sums : (settings : RunSettings) (files : List (List EventView))
    → HoldsAll 0 (of_test crashed_weight) crashed_said (all_notes settings files) (run_after_files (run_start settings) files)
crashed-sums = holds-whole {h = λ k. k.crashed} {Fine = λ k. Unit {0}} record {
  w_contradict = λ d. refl;
  v_contradict = λ d. refl;
  empty = refl;
  fine_empty = tt;
  of_end = λ s t order e f. (end-crash s t order e e.result, tt);
  of_early = λ others end s crashed stopped f. exactly (omega (
    arith,
    ends.by-early (of_test crashed_weight) (λ d. refl) (λ suite n of. refl) true others end s crashed stopped (λ c name. refl) (λ name. refl) (λ x. refl),
    early-suite (λ n. n.crashed) others end s crashed stopped,
  ));
  of_last = λ s e tests f. exactly (omega (
    arith,
    ends.by-last (of_test crashed_weight) (λ d. refl) (λ suite n of. refl) false false s e tests (λ name. refl) (λ x. grind arith) (λ name. refl),
    last-suite (λ n. n.crashed) s e tests,
  ));
}

-- the tests that were skipped
abbrev pub skipped_weight : OutcomeView → ℕ → Bool → ℕ
skipped_weight outcome n slow = one (was_skipped outcome)

abbrev skipped_said : NoteView → ℕ
skipped_said note = of_suite (λ s. s.skipped) note

end-skip : (s : SuiteState) (t : OverView) (order : ℕ) (e : TestEndView) (how : TestResult)
    → sum_by (of_test skipped_weight) (end_notes s t (record e { result = how })) + s.skipped
    ≡ sum_by skipped_said (end_notes s t (record e { result = how })) + (after_end s t order (record e { result = how })).skipped
end-skip s t order e Ok = grind arith
end-skip s t order e Failed = refl
end-skip s t order e Ignored = omega arith

pub skipped-last : (s : SuiteState) (e : Explanation) (tests : List RunningView)
    → sum_by (of_test skipped_weight) (last_by s e tests) ≡ length (take e.skipped tests)
skipped-last s e tests =
    let w = of_test skipped_weight in
    omega (arith, ends.by-last w (λ d. refl) (λ suite n of. refl) false true s e tests (λ name. refl) (λ x. grind arith) (λ name. refl))

skipped-sums : (settings : RunSettings) (files : List (List EventView))
    → HoldsAll 1 (of_test skipped_weight) skipped_said (all_notes settings files) (run_after_files (run_start settings) files)
skipped-sums = holds-whole {h = λ k. k.skipped} {Fine = λ k. Unit {0}} record {
  w_contradict = λ d. refl;
  v_contradict = λ d. refl;
  empty = refl;
  fine_empty = tt;
  of_end = λ s t order e f. (end-skip s t order e e.result, tt);
  of_early = λ others end s crashed stopped f. exactly (omega (
    arith,
    ends.by-early (of_test skipped_weight) (λ d. refl) (λ suite n of. refl) false others end s crashed stopped (λ c name. refl) (λ name. refl) (λ x. refl),
    early-suite (λ n. n.skipped) others end s crashed stopped,
  ));
  of_last = λ s e tests f. record {
    low = omega (arith, skipped-last s e tests, last-suite (λ n. n.skipped) s e tests, length-take e.skipped tests);
    high = λ never. absurd (omega arith);
  };
}

-- a count is the sum of a weight
pub count-of : (rule : TestNoteView → Bool) (weight : OutcomeView → ℕ → Bool → ℕ) → ((t : TestNoteView) → one (rule t) ≡ weight t.outcome t.attempts t.slow)
    → (notes : List NoteView) → count_by (is_test rule) notes ≡ sum_by (of_test weight) notes
count-of rule weight h notes = sum-same (λ x. one (is_test rule x)) (of_test weight) each notes
  where
    each : (note : NoteView) → one (is_test rule note) ≡ of_test weight note
    each (TestIs t) = h t
    each note = refl

pub finished-of : (notes : List NoteView) → sum_by (of_test finished_weight) notes ≡ passed_in notes + failed_in notes
finished-of notes = sum-both (of_test finished_weight) (λ x. one (is_test (λ t. has_passed t.outcome) x))
    (λ x. one (is_test (λ t. has_failed t.outcome) x)) each notes
  where
    each : (note : NoteView) → of_test finished_weight note
        ≡ one (is_test (λ t. has_passed t.outcome) note) + one (is_test (λ t. has_failed t.outcome) note)
    each (TestIs t) = refl
    each note = refl

pub same-not_run : (notes : List NoteView) → sum_by (of_suite (λ s. s.not_run)) notes ≡ not_run_in notes
same-not_run notes = sum-same (of_suite (λ s. s.not_run)) not_run_of each notes
  where
    each : (note : NoteView) → of_suite (λ s. s.not_run) note ≡ not_run_of note
    each (TestIs t) = refl
    each note = refl

pub failed-total : (settings : RunSettings) (files : List (List EventView))
    → failed_tests (fold with_note no_suites (all_notes settings files)).stats ≡ failed_in (all_notes settings files)
failed-total settings files = omega (
  arith,
  total failed_tests failed_weight refl failed-counts (λ output n slow h. refl) (λ reason n slow. refl) (λ a b. omega arith) settings files,
  count-of (λ t. has_failed t.outcome) failed_weight (λ t. refl) (all_notes settings files),
)

-- the sums over the notes of a whole run, whatever the outcome
pub counted : (settings : RunSettings) (files : List (List EventView)) (o : RunOutcome)
    → Counts (all_notes settings files) record (fold with_note no_suites (all_notes settings files)) { outcome = o }
counted settings files o =
    let notes = all_notes settings files in
    let crashed = (crashed-sums settings files).whole in
    let skipped = (skipped-sums settings files).whole in
    let sum_crashed = sum-of (λ e. e.crashed) (λ s. s.crashed) (λ e s. refl) refl notes in
    let sum_skipped = sum-of (λ e. e.skipped) (λ s. s.skipped) (λ e s. refl) refl notes in
    let finished =
    total (λ s. s.finished_count) finished_weight refl finished-counts (λ output n slow h. refl) (λ reason n slow. refl) (λ a b. refl) settings files in
    let passed = total (λ s. s.passed) passed_weight refl passed-counts (λ output n slow h. refl) (λ reason n slow. refl) (λ a b. refl) settings files in
    let passed_count = count-of (λ t. has_passed t.outcome) passed_weight (λ t. refl) notes in
    let finished_count = finished-of notes in
    record {
      finished = omega arith;
      passed = omega arith;
      failed = omega arith;
      flaky = omega (
        arith,
        total (λ s. s.flaky) flaky_weight refl flaky-counts (λ output n slow h. ap one h) (λ reason n slow. refl) (λ a b. refl) settings files,
        count-of (λ t. has_passed t.outcome && nat_lt 1 t.attempts) flaky_weight (λ t. refl) notes,
      );
      slow = omega (
        arith,
        total (λ s. s.passed_slow) slow_weight refl slow-counts (λ output n slow h. refl) (λ reason n slow. refl) (λ a b. refl) settings files,
        count-of (λ t. has_passed t.outcome && t.slow) slow_weight (λ t. refl) notes,
      );
      timed_out = omega (
        arith,
        total (λ s. s.failed_timed_out) timed_out_weight refl timed_out-counts (λ output n slow h. refl) (λ reason n slow. refl) (λ a b. refl) settings files,
        count-of (λ t. fails_by is_timed_out t.outcome) timed_out_weight (λ t. refl) notes,
      );
      crashed = omega (arith, crashed.high refl, count-of (λ t. fails_by is_crash t.outcome) crashed_weight (λ t. refl) notes);
      skipped = omega (arith, count-of (λ t. was_skipped t.outcome) skipped_weight (λ t. refl) notes);
      not_run = sum-of (λ e. e.not_run) (λ s. s.not_run) (λ e s. refl) refl notes ∙ same-not_run notes;
    }

pub run-sums : (settings : RunSettings) (files : List (List EventView))
    → sums_of (run_after_files (run_start settings) files) ≡ sums_in (all_notes settings files)
run-sums settings files = (crashed-sums settings files).all_sums

counted-end : (settings : RunSettings) (files : List (List EventView)) (beyond contradict : Bool)
    → let e = fold with_note no_suites (all_notes settings files) in
    Counts (all_notes settings files)
    (if beyond then record e { outcome = outcome.Failed step.Test }
    else if contradict then record e { outcome = combined e.outcome (outcome.Cancelled step.Test) }
    else e)
counted-end settings files true contradict = counted settings files (outcome.Failed step.Test)
counted-end settings files false true =
    counted settings files (combined (fold with_note no_suites (all_notes settings files)).outcome (outcome.Cancelled step.Test))
counted-end settings files false false = counted settings files (fold with_note no_suites (all_notes settings files)).outcome

pub totals-count : TotalsAreCounts
totals-count settings files =
    let r = run_after_files (run_start settings) files in
    subst (λ e. Counts (all_notes settings files) (ending e r.contradictions r.cancels)) (sym (ap (λ s. s.0) (run-sums settings files)))
    (counted-end settings files (nat_lt r.cancels r.contradictions) (nat_lt 0 r.contradictions))
