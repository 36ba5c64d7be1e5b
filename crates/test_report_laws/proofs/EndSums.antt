-- Sums over what becomes known at the end of a suite.
use Rattle.std.proofs.Common.{◌≡◌, ◌∙◌, ◌∷◌, [], ℕ, List, ◌++◌, ◌+◌, Bool, false, true, cond, Option, arith, map, length, refl, take}
use Rattle.std.specs.List.{sum_by}
use Rattle.std.specs.Prelude.{◌-◌}
use Rattle.std.proofs.lemmas.List.Sums.{sum_by-append, sum_by-cons}
use Rattle.test_report_events.specs.declared.program.ProgramEnd.{ProgramEnd}
use Rattle.test_report_run_notes.specs.Note.{ContradictionView, Contradicts, CrashView, HasCrashed, HasNoEnd, IsNotRun, NoteView, SuiteIs}
use Rattle.test_report_laws.proofs.Sums.{sum-all, sum-map}
use Rattle.test_report_run.specs.Running.{RunningView}
use Rattle.test_report_run.specs.Others.{OthersView}
use Rattle.test_report_run.specs.Over.{crash_again, crash_of, crashed_notes, early_by, early_contradictions, early_state, failed_note, failed_notes, flaky_note, flaky_notes, initial_of, last_contradiction, last_state, lost, number_notes, rest_of, skipped_note, stopped_note}
use Rattle.test_report_run.specs.Suite.{FlakyView, SuiteState, suite_name}
use Rattle.test_report_laws.proofs.Types.{Explanation, Rest}

-- the note with the numbers of a suite
abbrev pub suite_note : SuiteState → Rest → NoteView
suite_note s rest = SuiteIs record {
  name = suite_name s;
  stats = s.stats;
  skipped = rest.skipped;
  not_run = initial_of s rest - s.stats.finished_count;
  crashed = s.crashed;
  time = rest.time;
}

abbrev pub early_rest : SuiteState → List RunningView → Rest
early_rest s stopped = record { skipped = s.skipped; left = length stopped; time = s.time }

-- what becomes known of a suite that ends by its last line, which explains this
abbrev pub last_by : SuiteState → Explanation → List RunningView → List NoteView
last_by s e tests =
    map (skipped_note s) (take e.skipped tests)
    ++ (failed_notes s HasNoEnd (lost e tests)
    ++ (flaky_notes s e.flaky_failed
    ++ (last_contradiction (last_state s e tests)
    ++ number_notes (last_state s e tests) (rest_of s e tests))))

-- the notes of crashed tests, where each weighs 1, or each of them nothing
pub sum-crashed : (w : NoteView → ℕ) (crashes : Bool) (s : SuiteState)
    → ((c : CrashView) (test : RunningView) → w (failed_note s (HasCrashed c) test) ≡ cond crashes 1 0) → (c : CrashView) (tests : List RunningView)
    → sum_by w (crashed_notes s c tests) ≡ cond crashes (length tests) 0
sum-crashed w true s each c [] = refl
sum-crashed w false s each c [] = refl
sum-crashed w crashes s each c (test ∷ tests) =
    let again = HasCrashed (crash_again c) in
    let rest = sum-all (λ n. w (failed_note s again n)) crashes (each (crash_again c)) tests in
    sum-cons crashes (each c test) (sum-map w (failed_note s again) tests ∙ rest)
  where
    sum-cons : (one : Bool) → w (failed_note s (HasCrashed c) test) ≡ cond one 1 0
        → sum_by w (failed_notes s (HasCrashed (crash_again c)) tests) ≡ cond one (length tests) 0
        → sum_by w (crashed_notes s c (test ∷ tests)) ≡ cond one (length (test ∷ tests)) 0
    sum-cons true first rest =
        omega (arith, first, rest, sum_by-cons w (failed_note s (HasCrashed c) test) (failed_notes s (HasCrashed (crash_again c)) tests))
    sum-cons false first rest =
        omega (arith, first, rest, sum_by-cons w (failed_note s (HasCrashed c) test) (failed_notes s (HasCrashed (crash_again c)) tests))

-- a weight of notes, in which those of tests that were not run weigh nothing
module _ (w : NoteView → ℕ) (not_run : (suite : List ℕ) (n of : ℕ) → w (IsNotRun suite n of) ≡ 0) where
  pub of-numbers : (s : SuiteState) (rest : Rest) → sum_by w (number_notes s rest) ≡ w (suite_note s rest)
  of-numbers s rest = grind (arith, not_run)

  -- what becomes known of a suite that ends early: its running tests, its flaky tests and its numbers
  pub of-early-all : (others : OthersView) (end : Option ProgramEnd) (s : SuiteState) (crashed stopped : List RunningView)
      → sum_by w (early_by others end s crashed stopped)
      ≡ sum_by w (crashed_notes s (crash_of others end s (length crashed)) crashed)
      + (sum_by (λ test. w (stopped_note s test)) stopped
      + (sum_by (λ f. w (flaky_note s false f)) s.flaky
      + (sum_by w (early_contradictions s end (length crashed)) + w (suite_note (early_state s crashed) (early_rest s stopped)))))
  of-early-all others end s crashed stopped =
      simp (sum_by-append, sum-map) (omega (arith, simp sum_by-append at (of-numbers (early_state s crashed) (early_rest s stopped))))

  -- what becomes known of a suite that ends by its last line
  pub of-last-all : (s : SuiteState) (e : Explanation) (tests : List RunningView) → sum_by w (last_by s e tests)
      ≡ sum_by (λ test. w (skipped_note s test)) (take e.skipped tests)
      + (sum_by (λ test. w (failed_note s HasNoEnd test)) (lost e tests)
      + (sum_by (λ f. w (flaky_note s e.flaky_failed f)) s.flaky
      + (sum_by w (last_contradiction (last_state s e tests)) + w (suite_note (last_state s e tests) (rest_of s e tests)))))
  of-last-all s e tests =
      simp (sum_by-append, sum-map) (omega (arith, simp sum_by-append at (of-numbers (last_state s e tests) (rest_of s e tests))))

-- a weight of notes, in which those that name no test and no suite weigh nothing
module _ (w : NoteView → ℕ) (contradict : (d : ContradictionView) → w (Contradicts d) ≡ 0)
    (not_run : (suite : List ℕ) (n of : ℕ) → w (IsNotRun suite n of) ≡ 0) where
  pub of-early_contradictions : (s : SuiteState) (end : Option ProgramEnd) (crashed : ℕ) → sum_by w (early_contradictions s end crashed) ≡ 0
  of-early_contradictions s end crashed = grind (arith, contradict)

  of-last_contradiction : (s : SuiteState) → sum_by w (last_contradiction s) ≡ 0
  of-last_contradiction s = grind (arith, contradict)

  pub of-early : (others : OthersView) (end : Option ProgramEnd) (s : SuiteState) (crashed stopped : List RunningView)
      → sum_by w (early_by others end s crashed stopped)
      ≡ sum_by w (crashed_notes s (crash_of others end s (length crashed)) crashed)
      + (sum_by (λ test. w (stopped_note s test)) stopped
      + (sum_by (λ f. w (flaky_note s false f)) s.flaky + w (suite_note (early_state s crashed) (early_rest s stopped))))
  of-early others end s crashed stopped =
      omega (arith, of-early-all w not_run others end s crashed stopped, of-early_contradictions s end (length crashed))

  pub of-last : (s : SuiteState) (e : Explanation) (tests : List RunningView) → sum_by w (last_by s e tests)
      ≡ sum_by (λ test. w (failed_note s HasNoEnd test)) (lost e tests)
      + (sum_by (λ f. w (flaky_note s e.flaky_failed f)) s.flaky
      + (sum_by (λ test. w (skipped_note s test)) (take e.skipped tests) + w (suite_note (last_state s e tests) (rest_of s e tests))))
  of-last s e tests = omega (arith, of-last-all w not_run s e tests, of-last_contradiction (last_state s e tests))

  -- the same where each test of a kind weighs 1, or each of them nothing
  pub by-early : (crashes : Bool) (others : OthersView) (end : Option ProgramEnd) (s : SuiteState) (crashed stopped : List RunningView)
      → ((c : CrashView) (test : RunningView) → w (failed_note s (HasCrashed c) test) ≡ cond crashes 1 0)
      → ((test : RunningView) → w (stopped_note s test) ≡ 0)
      → ((f : FlakyView) → w (flaky_note s false f) ≡ 0)
      → sum_by w (early_by others end s crashed stopped)
      ≡ cond crashes (length crashed) 0 + w (suite_note (early_state s crashed) (early_rest s stopped))
  by-early crashes others end s crashed stopped crash stop flaky = omega (
    arith,
    of-early others end s crashed stopped,
    sum-crashed w crashes s crash (crash_of others end s (length crashed)) crashed,
    sum-all (λ test. w (stopped_note s test)) false stop stopped,
    sum-all (λ f. w (flaky_note s false f)) false flaky s.flaky,
  )

  pub by-last : (fails skips : Bool) (s : SuiteState) (e : Explanation) (tests : List RunningView)
      → ((test : RunningView) → w (failed_note s HasNoEnd test) ≡ cond fails 1 0)
      → ((f : FlakyView) → w (flaky_note s e.flaky_failed f) ≡ 0)
      → ((test : RunningView) → w (skipped_note s test) ≡ cond skips 1 0)
      → sum_by w (last_by s e tests)
      ≡ cond fails (length (lost e tests)) 0 + (cond skips (length (take e.skipped tests)) 0 + w (suite_note (last_state s e tests) (rest_of s e tests)))
  by-last fails skips s e tests fail flaky skip = omega (
    arith,
    of-last s e tests,
    sum-all (λ test. w (failed_note s HasNoEnd test)) fails fail (lost e tests),
    sum-all (λ f. w (flaky_note s e.flaky_failed f)) false flaky s.flaky,
    sum-all (λ test. w (skipped_note s test)) skips skip (take e.skipped tests),
  )
