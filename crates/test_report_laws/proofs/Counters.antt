-- A counter of statistics counts notes.
use Rattle.std.proofs.Common.{◌≡◌, ℕ, List, [], ◌∷◌, ◌+◌, ◌≤◌, Bool, true, false, None, Option, refl, ap, arith, sym, drop, length, take}
use Rattle.std.specs.List.{All, fold, position_or_len, sum_by}
use Rattle.std.specs.Prelude.{if◌then◌else◌, nat_lt}
use Rattle.std.proofs.lemmas.List.Elements.{All-append, All-cons, All-drop, All-head, All-nil, All-tail, All-take}
use Rattle.std.proofs.lemmas.List.Sums.{sum_by-cons}
use Rattle.run_events_stats.specs.Counters.{counters_of, nothing_known, sum_of, with_test}
use Rattle.run_events_stats.specs.Summary.{failed_tests}
use Rattle.run_events_stats.specs.declared.stats.RunStats.{RunStats}
use Rattle.test_report_events.specs.Event.{EventView, TestEndView}
use Rattle.test_report_events.specs.declared.event.TestResult.{TestResult}
use Rattle.test_report_events.specs.declared.event.TestResult.TheVariants.{Ok, Failed, Ignored}
use Rattle.test_report_events.specs.declared.program.ProgramEnd.{ProgramEnd}
use Rattle.test_report_run_notes.specs.Finish.{finish_for, view_of_finish}
use Rattle.test_report_run_notes.specs.Note.{CrashView, Fails, FlakyEnds, HasCrashed, HasFailed, HasNoEnd, HasTimedOut, IsFlaky, IsSkipped, IsStopped, KindView, NoteView, OutcomeView, Passes, SuiteIs, SuiteNoteView, TestIs}
use Rattle.test_report_run_notes.specs.declared.note.RunEnd.{RunEnd}
use Rattle.test_report_laws.proofs.Books.{Kept, Rules, Within, holds-whole, kept}
use Rattle.test_report_laws.proofs.EndSums as ends
use Rattle.test_report_laws.proofs.EndSums.{by-early, by-last, early_rest, last_by, suite_note}
use Rattle.test_report_laws.proofs.Sums.{sum-map, sum-none}
use Rattle.test_report_run.specs.Running.{RunningView}
use Rattle.test_report_run.specs.Ended.{after_end, after_flaky, end_notes, starts_later, timed}
use Rattle.test_report_run.specs.Others.{OthersView}
use Rattle.test_report_run.specs.Over.{bare_failure, crash_again, crash_of, crashed_notes, early_by, early_state, failed_note, failed_notes, flaky_outcome, last_state, lost, one_failed, one_flaky, rest_of, skipped_note, stopped_note, with_all_flaky, with_failed}
use Rattle.test_report_run.specs.Run.{RunSettings, with_note}
use Rattle.test_report_run.specs.Totals.{no_suites, with_suite}
use Rattle.test_report_laws.specs.Whole.{all_notes}
use Rattle.test_report_run.specs.Suite.{FlakyView, OverView, SuiteState, with_finish}
use Rattle.test_report_run.proofs.Finishes.{finish_passed}
use Rattle.test_report_laws.proofs.Types.{Explanation}

-- the statistics with a test that counts so after so many attempts, and that was slow or not
abbrev pub with_outcome : RunStats → OutcomeView → ℕ → Bool → RunStats
with_outcome stats (Passes output) n slow = with_test stats (view_of_finish finish_passed n slow)
with_outcome stats (IsSkipped reason) n slow = stats
with_outcome stats IsStopped n slow = stats
with_outcome stats (Fails f) n slow = with_test stats (view_of_finish (finish_for f.kind) n slow)

-- a flaky test had more than one attempt
abbrev pub fits_kind : KindView → ℕ → Bool
fits_kind IsFlaky n = nat_lt 1 n
fits_kind kind n = true

abbrev pub fits : OutcomeView → ℕ → Bool
fits (Fails f) n = fits_kind f.kind n
fits outcome n = true

-- notes of tests weighed by a rule, and notes of suites
abbrev pub of_test : (OutcomeView → ℕ → Bool → ℕ) → NoteView → ℕ
of_test rule (TestIs t) = rule t.outcome t.attempts t.slow
of_test rule (FlakyEnds t) = 0
of_test rule note = 0

abbrev pub of_suite : (SuiteNoteView → ℕ) → NoteView → ℕ
of_suite weight (SuiteIs s) = weight s
of_suite weight note = 0

-- the notes of a suite that ends have one of the suite
pub early-suite : (weight : SuiteNoteView → ℕ) (others : OthersView) (end : Option ProgramEnd) (s : SuiteState) (crashed stopped : List RunningView)
    → sum_by (of_suite weight) (early_by others end s crashed stopped) ≡ of_suite weight (suite_note (early_state s crashed) (early_rest s stopped))
early-suite weight others end s crashed stopped = omega (
  arith,
  by-early (of_suite weight) (λ d. refl) (λ suite n of. refl) false others end s crashed stopped (λ c name. refl) (λ name. refl) (λ f. refl),
)

pub last-suite : (weight : SuiteNoteView → ℕ) (s : SuiteState) (e : Explanation) (tests : List RunningView)
    → sum_by (of_suite weight) (last_by s e tests) ≡ of_suite weight (suite_note (last_state s e tests) (rest_of s e tests))
last-suite weight s e tests = omega (
  arith,
  by-last (of_suite weight) (λ d. refl) (λ suite n of. refl) false false s e tests (λ name. refl) (λ f. refl) (λ name. refl),
)

abbrev pub IsLate : FlakyView → Type 0
IsLate f = nat_lt 1 f.test.attempts ≡ true

-- what is sound of what a suite keeps: each flaky test had more than one attempt, and the tests that finished passed or failed
pub record Sound (k : Kept) : Type 0 where
  pub late : All IsLate k.flaky
  pub passed : k.stats.passed ≤ k.stats.finished_count
  pub fair : k.stats.finished_count ≤ k.stats.passed + failed_tests k.stats

-- the end of a test keeps it
passed-sound : (s : SuiteState) (t : OverView) (order : ℕ) (e : TestEndView) (flaky : Bool) → nat_lt 1 t.attempts ≡ flaky → Sound (kept s)
    → Sound (kept (if flaky then after_flaky (timed s e) t order e else with_finish (timed s e) finish_passed 1 t.slow))
passed-sound s t order e true many sound =
    let f : FlakyView = record { test = t; order = order; stdout = e.stdout; message = e.message } in
    let at = position_or_len (starts_later order) s.flaky in
    record {
      late = All-append IsLate (take at s.flaky) (f ∷ drop at s.flaky) (All-take IsLate at s.flaky sound.late)
          (All-cons IsLate f (drop at s.flaky) many (All-drop IsLate at s.flaky sound.late));
      passed = sound.passed;
      fair = sound.fair;
    }
passed-sound s t order e false one sound =
    record { late = sound.late; passed = omega (arith, sound.passed); fair = omega (arith, sound.fair) }

end-sound : (s : SuiteState) (t : OverView) (order : ℕ) (e : TestEndView) (how : TestResult) → Sound (kept s)
    → Sound (kept (after_end s t order (record e { result = how })))
end-sound s t order e Ok sound = passed-sound s t order e (nat_lt 1 t.attempts) refl sound
end-sound s t order e Failed sound = record { late = sound.late; passed = grind (arith, sound.passed); fair = grind (arith, sound.fair) }
end-sound s t order e Ignored sound = record { late = sound.late; passed = sound.passed; fair = sound.fair }

pub exactly : {loose a b : ℕ} → a ≡ b → Within loose a b
exactly e = record { low = omega arith; high = λ _. omega arith }

-- the sums that a run keeps over suites
adds-up : (g : RunEnd → ℕ) (v : NoteView → ℕ) → ((e : RunEnd) (note : NoteView) → g (with_note e note) ≡ g e + v note) → (e : RunEnd) (notes : List NoteView)
    → g (fold with_note e notes) ≡ g e + sum_by v notes
adds-up g v h e [] = omega arith
adds-up g v h e (note ∷ notes) = omega (arith, h e note, adds-up g v h (with_note e note) notes, sum_by-cons v note notes)

-- a weight of suites that the sums have
pub sum-of : (g : RunEnd → ℕ) (weight : SuiteNoteView → ℕ) → ((e : RunEnd) (s : SuiteNoteView) → g (with_suite e s) ≡ g e + weight s) → g no_suites ≡ 0
    → (notes : List NoteView) → g (fold with_note no_suites notes) ≡ sum_by (of_suite weight) notes
sum-of g weight h none notes = omega (arith, none, adds-up g (of_suite weight) each no_suites notes)
  where
    each : (e : RunEnd) (note : NoteView) → g (with_note e note) ≡ g e + of_suite weight note
    each e (SuiteIs s) = h e s
    each e note = omega arith

-- a counter of statistics, and the rule for the tests that it counts
module _ (counter : RunStats → ℕ) (rule : OutcomeView → ℕ → Bool → ℕ) (empty : counter (counters_of [] [] nothing_known) ≡ 0)
    (counts : (stats : RunStats) (outcome : OutcomeView) (n : ℕ) (slow : Bool) → fits outcome n ≡ true
    → counter (with_outcome stats outcome n slow) ≡ counter stats + rule outcome n slow)
    (once : (output : Option (List ℕ)) (n : ℕ) (slow : Bool) → nat_lt 1 n ≡ false → rule (Passes output) n slow ≡ rule (Passes output) 1 slow)
    (skips : (reason : Option (List ℕ)) (n : ℕ) (slow : Bool) → rule (IsSkipped reason) n slow ≡ 0) where
  abbrev w : NoteView → ℕ
  w note = of_test rule note

  abbrev v : NoteView → ℕ
  v note = of_suite (λ s. counter s.stats) note

  -- several tests that failed, and several flaky tests
  counts-failed : (kind : KindView) → finish_for kind ≡ finish_for HasFailed → ((n : ℕ) → fits_kind kind n ≡ true)
      → (stats : RunStats) (tests : List RunningView)
      → counter (with_failed stats tests) ≡ counter stats + sum_by (λ t. rule (Fails (bare_failure kind)) 1 t.slow) tests
  counts-failed kind is fit stats [] = omega arith
  counts-failed kind is fit stats (t ∷ tests) =
      let one = counts stats (Fails (bare_failure kind)) 1 t.slow (fit 1) in
      let same : counter (one_failed stats t) ≡ counter (with_outcome stats (Fails (bare_failure kind)) 1 t.slow) =
      ap (λ how. counter (with_test stats (view_of_finish how 1 t.slow))) (sym is) in
      omega (
        arith,
        one,
        same,
        counts-failed kind is fit (one_failed stats t) tests,
        sum_by-cons (λ (x : RunningView). rule (Fails (bare_failure kind)) 1 x.slow) t tests,
      )

  counts-crashed : (s : SuiteState) (c : CrashView) (stats : RunStats) (tests : List RunningView)
      → counter (with_failed stats tests) ≡ counter stats + sum_by w (crashed_notes s c tests)
  counts-crashed s c stats [] = omega arith
  counts-crashed s c stats (t ∷ tests) =
      let again = HasCrashed (crash_again c) in
      omega (
        arith,
        counts-failed (HasCrashed c) refl (λ n. refl) stats (t ∷ []),
        counts-failed again refl (λ n. refl) (one_failed stats t) tests,
        sum_by-cons (λ (x : RunningView). rule (Fails (bare_failure (HasCrashed c))) 1 x.slow) t [],
        sum_by-cons w (failed_note s (HasCrashed c) t) (failed_notes s again tests),
        sum-map w (failed_note s again) tests,
      )

  -- a test that was stopped counts nowhere
  stops : (n : ℕ) (slow : Bool) → rule IsStopped n slow ≡ 0
  stops n slow = omega (arith, counts (counters_of [] [] nothing_known) IsStopped n slow refl)

  counts-flaky-one : (failed : Bool) (stats : RunStats) (f : FlakyView) → IsLate f
      → counter (one_flaky failed stats f) ≡ counter stats + rule (flaky_outcome failed f) f.test.attempts f.test.slow
  counts-flaky-one true stats f late = counts stats (flaky_outcome true f) f.test.attempts f.test.slow late
  counts-flaky-one false stats f late = counts stats (Passes f.stdout) f.test.attempts f.test.slow refl

  counts-flaky : (failed : Bool) (stats : RunStats) (flaky : List FlakyView) → All IsLate flaky
      → counter (with_all_flaky failed stats flaky) ≡ counter stats + sum_by (λ f. rule (flaky_outcome failed f) f.test.attempts f.test.slow) flaky
  counts-flaky failed stats [] late = omega arith
  counts-flaky failed stats (f ∷ flaky) late = omega (
    arith,
    counts-flaky-one failed stats f (All-head IsLate f flaky late),
    counts-flaky failed (one_flaky failed stats f) flaky (All-tail IsLate f flaky late),
    sum_by-cons (λ x. rule (flaky_outcome failed x) x.test.attempts x.test.slow) f flaky,
  )

  -- the end of a test
  at-end : (s : SuiteState) (t : OverView) (order : ℕ) (e : TestEndView) (how : TestResult)
      → sum_by w (end_notes s t (record e { result = how })) + counter s.stats ≡ 0 + counter (after_end s t order (record e { result = how })).stats
  at-end s t order e Ok = grind (arith, counts s.stats (Passes e.stdout) 1 t.slow refl, once e.stdout t.attempts t.slow)
  at-end s t order e Failed =
      let how = λ (kind : KindView). Fails record { kind = kind; stdout = e.stdout; message = e.message; reason = e.reason } in
      grind (arith, counts s.stats (how HasTimedOut) t.attempts t.slow refl, counts s.stats (how HasFailed) t.attempts t.slow refl)
  at-end s t order e Ignored = omega (arith, skips e.message t.attempts t.slow)

  no-suite : (s : SuiteState) (t : OverView) (e : TestEndView) (how : TestResult) → sum_by v (end_notes s t (record e { result = how })) ≡ 0
  no-suite s t e Ok = grind arith
  no-suite s t e Failed = refl
  no-suite s t e Ignored = refl

  at-early : (others : OthersView) (end : Option ProgramEnd) (s : SuiteState) (crashed stopped : List RunningView) → All IsLate s.flaky
      → sum_by w (early_by others end s crashed stopped) + counter s.stats ≡ sum_by v (early_by others end s crashed stopped)
  at-early others end s crashed stopped late = omega (
    arith,
    ends.of-early w (λ d. refl) (λ suite n of. refl) others end s crashed stopped,
    early-suite (λ n. counter n.stats) others end s crashed stopped,
    counts-crashed s (crash_of others end s (length crashed)) s.stats crashed,
    sum-none (λ test. w (stopped_note s test)) (λ test. stops 1 test.slow) stopped,
    counts-flaky false (with_failed s.stats crashed) s.flaky late,
  )

  at-last : (s : SuiteState) (e : Explanation) (tests : List RunningView) → All IsLate s.flaky
      → sum_by w (last_by s e tests) + counter s.stats ≡ sum_by v (last_by s e tests)
  at-last s e tests late = omega (
    arith,
    ends.of-last w (λ d. refl) (λ suite n of. refl) s e tests,
    last-suite (λ n. counter n.stats) s e tests,
    sum-none (λ test. w (skipped_note s test)) (λ test. skips None 1 test.slow) (take e.skipped tests),
    counts-failed HasNoEnd refl (λ n. refl) s.stats (lost e tests),
    counts-flaky e.flaky_failed (with_failed s.stats (lost e tests)) s.flaky late,
  )

  -- the statistics of a suite after its last line
  pub after-last : (s : SuiteState) (e : Explanation) (tests : List RunningView) → All IsLate s.flaky
      → counter (last_state s e tests).stats ≡ counter s.stats + sum_by (of_test rule) (last_by s e tests)
  after-last s e tests late = omega (arith, at-last s e tests late, last-suite (λ n. counter n.stats) s e tests)

  pub counter-rules : Rules 0 (of_test rule) (of_suite (λ s. counter s.stats)) (λ k. counter k.stats) Sound
  counter-rules = record {
    w_contradict = λ d. refl;
    v_contradict = λ d. refl;
    empty = empty;
    fine_empty = record { late = All-nil IsLate; passed = omega arith; fair = omega arith };
    of_end = λ s t order e sound. (omega (arith, at-end s t order e e.result, no-suite s t e e.result), end-sound s t order e e.result sound);
    of_early = λ others end s crashed stopped sound. exactly (at-early others end s crashed stopped sound.late);
    of_last = λ s e tests sound. exactly (at-last s e tests sound.late);
  }

  -- the notes of suites sum up to what the notes of tests count, and so do the sums of a run
  pub sums-up : (settings : RunSettings) (files : List (List EventView))
      → sum_by (of_test rule) (all_notes settings files) ≡ sum_by (of_suite (λ s. counter s.stats)) (all_notes settings files)
  sums-up settings files = let sums = (holds-whole counter-rules settings files).whole in omega (arith, sums.high refl)

  pub total : ((a b : RunStats) → counter (sum_of a b) ≡ counter a + counter b) → (settings : RunSettings) (files : List (List EventView))
      → counter (fold with_note no_suites (all_notes settings files)).stats ≡ sum_by (of_test rule) (all_notes settings files)
  total adds settings files = omega (
    arith,
    sums-up settings files,
    sum-of (λ e. counter e.stats) (λ s. counter s.stats) (λ e s. adds e.stats s.stats) empty (all_notes settings files),
  )
