-- Tests that were not run are in notes that name their suites.
use Rattle.std.proofs.Common.{◌≡◌, ◌≢◌, ◌∙◌, ℕ, List, [], ◌∷◌, ◌++◌, ◌+◌, Bool, true, false, Option, Some, None, cond, refl, ap, arith, inl, inr, length, map, sym, take, ◌<◌, ◌≤◌}
use Rattle.std.specs.List.{count_by, fold, remove, sum_by}
use Rattle.std.specs.Option.{option_map_or}
use Rattle.std.specs.Prelude.{◌-◌, ◌==◌, ◌&&◌, filter, if◌then◌else◌, is_none, max, nat_lt, not}
use Rattle.std.proofs.lemmas.Bool.{cases_lt}
use Rattle.std.proofs.lemmas.Bool.Decides.{nat_tests}
use Rattle.std.proofs.lemmas.List.Sums.{count_by-le-length, length-filter, sum_by-append, sum_by-cons}
use Rattle.test_report_events.specs.Event.{AllEndEarly, EventView, SuiteEndView, TestEndView, SuiteStarts, SuiteEnds, TestEnds}
use Rattle.test_report_events.specs.declared.event.TestResult.{TestResult}
use Rattle.test_report_events.specs.declared.event.TestResult.TheVariants.{Ok, Failed, Ignored}
use Rattle.test_report_events.specs.declared.program.ProgramEnd.{ProgramEnd}
use Rattle.test_report_run_notes.specs.Note.{ContradictionView, Contradicts, Fails, FlakyEnds, HasNoEnd, IsNotRun, IsSkipped, NoteView, Passes, StrayEnds, StraySuiteEnds, SuiteIs, SuiteNoteView, TestIs, TestNoteView}
use Rattle.test_report_laws.proofs.Books.{IsIn, position-in}
use Rattle.test_report_laws.proofs.CargoReports.{only-settled_at, ready, reports-none}
use Rattle.test_report_laws.proofs.EndSums.{early_rest, last_by, of-numbers, sum-crashed}
use Rattle.test_report_laws.proofs.FileEnds.{end-parts, reported_run, suites-alone}
use Rattle.test_report_laws.proofs.Outside.{IsOutside, filter-low, lone, outside-end, outside-line, outside-ready, outside-reported}
use Rattle.test_report_laws.proofs.OverRuns.{over-run}
use Rattle.test_report_laws.proofs.RunCauses.{weight}
use Rattle.test_report_laws.proofs.Sums.{sum-all, sum-both, sum-if-none, sum-map, sum-none}
use Rattle.test_report_laws.proofs.Verdicts.{early-cause}
use Rattle.test_report_laws.proofs.Weights.{has-number, numbered-end, numbered-line, numbered-ready, numbered-reported, unnumbered, weigh, weight_of}
use Rattle.test_report_run.specs.Ended.{end_notes, failure_of}
use Rattle.test_report_laws.specs.Run.{not_run_in, not_run_of}
use Rattle.test_report_run.specs.Others.{OthersView}
use Rattle.test_report_run.specs.Over.{EarlyEnd, crash_of, crashed_notes, crashed_of, crashes, early_by, early_contradictions, early_notes, early_state, explained_of, failed_note, failed_notes, flaky_note, flaky_notes, flaky_outcome, initial_of, last_contradiction, last_notes, last_state, lost, nothing_known, number_notes, rest_of, skipped_note, stopped_note, stopped_of}
use Rattle.test_report_run.specs.FileEnd.{file_notes}
use Rattle.test_report_run.specs.Run.{RunSettings, RunState, Step, all_ended_early, counts_tests, early_end, ended_at, ended_early, is_cause, tests_in, notes_at, open_suite, opened, place_of_number, running_ends, running_over, settled_at, started_again, step, stray_ends, stray_over, stray_suite_notes, stray_test, suite_at, suite_place, told, with_suite_at, without_tests}
use Rattle.test_report_run.specs.Running.{RunningView, is_of, place_of_end, running_at}
use Rattle.test_report_laws.specs.Status.{NotRunIsNamed, is_not_run, is_stopped_outside, named_not_run, was_stopped}
use Rattle.test_report_laws.specs.Whole.{all_notes}
use Rattle.test_report_run.specs.Name.{given_by, name_of}
use Rattle.test_report_run.specs.Suite.{FlakyView, OverView, SuiteState, cancelled_by, has_key, named, outside_start, suite_name, test_of, with_line}
use Rattle.test_report_laws.proofs.Types.{Explanation, Rest}

-- how a flaky test counts, it was not stopped
flaky-ran : (failed : Bool) (f : FlakyView) → was_stopped (flaky_outcome failed f) ≡ false
flaky-ran true f = refl
flaky-ran false f = refl

-- a weight of notes, in which those of tests that were not stopped, of ends of flaky tests and of contradictions weigh nothing
module _ (w : NoteView → ℕ) (test : (t : TestNoteView) → was_stopped t.outcome ≡ false → w (TestIs t) ≡ 0)
    (flaky-end : (t : TestNoteView) → w (FlakyEnds t) ≡ 0) (contradict : (d : ContradictionView) → w (Contradicts d) ≡ 0) where
  -- of a suite that ends, only its numbers weigh, and its stopped tests, if each of them weighs 1
  of-early : (each : Bool) (others : OthersView) (end : Option ProgramEnd) (s : SuiteState) (crashed stopped : List RunningView)
      → ((t : RunningView) → w (stopped_note s t) ≡ cond each 1 0)
      → sum_by w (early_by others end s crashed stopped)
      ≡ cond each (length stopped) 0 + sum_by w (number_notes (early_state s crashed) (early_rest s stopped))
  of-early each others end s crashed stopped stop =
      let crashes = crashed_notes s (crash_of others end s (length crashed)) crashed in
      let stops = map (stopped_note s) stopped in
      let flaky = flaky_notes s false in
      let contradictions = early_contradictions s end (length crashed) in
      let numbers = number_notes (early_state s crashed) (early_rest s stopped) in
      let none : sum_by w contradictions ≡ 0 = grind (arith, contradict) in
      omega (
        arith,
        none,
        sum_by-append w crashes (stops ++ (flaky ++ (contradictions ++ numbers))),
        sum_by-append w stops (flaky ++ (contradictions ++ numbers)),
        sum_by-append w flaky (contradictions ++ numbers),
        sum_by-append w contradictions numbers,
        sum-crashed w false s (λ c name. test _ refl) (crash_of others end s (length crashed)) crashed,
        sum-map w (stopped_note s) stopped,
        sum-all (λ t. w (stopped_note s t)) each stop stopped,
        sum-map w (flaky_note s false) s.flaky,
        sum-none (λ f. w (flaky_note s false f)) (λ f. test _ refl) s.flaky,
      )

  of-last : (s : SuiteState) (e : Explanation) (tests : List RunningView)
      → sum_by w (last_by s e tests) ≡ sum_by w (number_notes (last_state s e tests) (rest_of s e tests))
  of-last s e tests =
      let skipped = map (skipped_note s) (take e.skipped tests) in
      let failed = failed_notes s HasNoEnd (lost e tests) in
      let flaky = flaky_notes s e.flaky_failed in
      let contradictions = last_contradiction (last_state s e tests) in
      let numbers = number_notes (last_state s e tests) (rest_of s e tests) in
      let none : sum_by w contradictions ≡ 0 = grind (arith, contradict) in
      omega (
        arith,
        none,
        sum_by-append w skipped (failed ++ (flaky ++ (contradictions ++ numbers))),
        sum_by-append w failed (flaky ++ (contradictions ++ numbers)),
        sum_by-append w flaky (contradictions ++ numbers),
        sum_by-append w contradictions numbers,
        sum-map w (skipped_note s) (take e.skipped tests),
        sum-none (λ test. w (skipped_note s test)) (λ name. test _ refl) (take e.skipped tests),
        sum-map w (failed_note s HasNoEnd) (lost e tests),
        sum-none (λ test. w (failed_note s HasNoEnd test)) (λ name. test _ refl) (lost e tests),
        sum-map w (flaky_note s e.flaky_failed) s.flaky,
        sum-none (λ f. w (flaky_note s e.flaky_failed f)) (λ f. test _ (flaky-ran e.flaky_failed f)) s.flaky,
      )

  -- the end of a test does not weigh
  of-end : (s : SuiteState) (t : OverView) (e : TestEndView) (how : TestResult) → sum_by w (end_notes s t (record e { result = how })) ≡ 0
  of-end s t e Ok = let passes = test (test_of s t (Passes e.stdout)) refl in grind (arith, passes, flaky-end)
  of-end s t e Failed = omega (arith, test (test_of s t (Fails (failure_of (record e { result = Failed })))) refl)
  of-end s t e Ignored = omega (arith, test (test_of s t (IsSkipped e.message)) refl)

  of-stray : (r : RunState) (e : TestEndView) (how : TestResult) → sum_by w (stray_ends r (record e { result = how })).notes ≡ 0
  of-stray r e Ok = sum-if-none w true (Contradicts (StrayEnds e.name Ok)) (contradict _)
  of-stray r e Failed = omega (
    arith,
    sum_by-append w (stray_test r (record e { result = Failed })) (Contradicts (StrayEnds e.name Failed) ∷ []),
    of-end (named (suite_at r (suite_place r e.name)) e.name) (stray_over r e) e Failed,
    sum-if-none w true (Contradicts (StrayEnds e.name Failed)) (contradict _),
  )
  of-stray r e Ignored = of-end (named (suite_at r (suite_place r e.name)) e.name) (stray_over r e) e Ignored

  of-test : (r : RunState) (e : TestEndView) (place : Option (ℕ × ℕ))
      → sum_by w (option_map_or (λ p. running_ends r e p.0 p.1) place (stray_ends r e)).notes ≡ 0
  of-test r e None = of-stray r e e.result
  of-test r e (Some p) =
      let ran = running_at r.running p.0 in
      let r' = record r { running = remove r.running p.0 } in
      of-end (suite_at r' (place_of_number r' ran.suite)) (running_over r' e ran p.1) e e.result

-- tests outside of suites that were stopped
abbrev outside : NoteView → ℕ
outside (TestIs t) = cond (is_stopped_outside t) 1 0
outside note = 0

not-outside : (t : TestNoteView) → was_stopped t.outcome ≡ false → outside (TestIs t) ≡ 0
not-outside t ran = ap (λ (b : Bool). cond (b && is_none t.suite) 1 0) ran

-- the two numbers of tests that were not run are equal, and if one of these was stopped outside of a suite, there is a failed test or a contradiction
record Same (notes : List NoteView) : Type 0 where
  same : sum_by named_not_run notes ≡ sum_by not_run_of notes
  known : 0 < sum_by outside notes → 0 < count_by is_cause notes

same-append : (a b : List NoteView) → Same a → Same b → Same (a ++ b)
same-append a b x y = record {
  same = omega (arith, x.same, y.same, sum_by-append named_not_run a b, sum_by-append not_run_of a b);
  known = λ some. elim (cases_lt 0 (sum_by outside a)) [
    | inl more ↦ omega (arith, x.known more, sum_by-append weight a b)
    | inr none ↦ omega (arith, y.known (omega (arith, some, none, sum_by-append outside a b)), sum_by-append weight a b)
  ];
}

-- notes of which none is of a test that was not run
same-none : (notes : List NoteView) → sum_by named_not_run notes ≡ 0 → sum_by not_run_of notes ≡ 0 → sum_by outside notes ≡ 0 → Same notes
same-none notes a b c = record { same = a ∙ sym b; known = λ some. absurd (omega (arith, c, some)) }

same-if : (b : Bool) (d : ContradictionView) → Same (if b then Contradicts d ∷ [] else [])
same-if b d =
    same-none _ (sum-if-none named_not_run b (Contradicts d) refl) (sum-if-none not_run_of b (Contradicts d) refl) (sum-if-none outside b (Contradicts d) refl)

-- the numbers of a suite that has a name, or of which so many tests were not run
same-named : (name : Option (List ℕ)) (k n initial : ℕ) (s : SuiteNoteView) → s.not_run ≡ n → (name ≡ None → n ≡ k)
    → let notes = option_map_or (λ x. if nat_lt 0 n then IsNotRun x n initial ∷ [] else []) name [] ++ SuiteIs s ∷ [] in
    cond (is_none name) k 0 + sum_by named_not_run notes ≡ sum_by not_run_of notes
same-named None k n initial s is none = omega (arith, none refl, is)
same-named (Some name) k n initial s is none = grind (arith, nat_tests, is)

no-name : (s : SuiteState) → suite_name s ≡ None → s.number ≡ None
no-name s none = by-number s.number none
  where
    by-number : (number : Option ℕ) → name_of number (given_by s.key s.heading s.first_test) ≡ None → number ≡ None
    by-number None h = refl
    by-number (Some n) h = absurd (cc)

none-announced : (count : Option ℕ) (skipped finished left : ℕ) → count ≡ None
    → option_map_or (λ c. max (c - skipped) (finished + left)) count (finished + left) - finished ≡ left
none-announced None skipped finished left h = omega arith
none-announced (Some c) skipped finished left h = absurd (cc)

same-numbers : (s : SuiteState) (rest : Rest) (k : ℕ) → (suite_name s ≡ None → initial_of s rest - s.stats.finished_count ≡ k)
    → cond (is_none (suite_name s)) k 0 + sum_by named_not_run (number_notes s rest) ≡ sum_by not_run_of (number_notes s rest)
same-numbers s rest k none =
    let n = initial_of s rest - s.stats.finished_count in
    let note : SuiteNoteView =
    record { name = suite_name s; stats = s.stats; skipped = rest.skipped; not_run = n; crashed = s.crashed; time = rest.time } in
    same-named (suite_name s) k n (initial_of s rest) note refl none

none-outside : (s : SuiteState) (rest : Rest) → sum_by outside (number_notes s rest) ≡ 0
none-outside s rest = of-numbers outside (λ suite n of. refl) s rest

-- at most as many tests outside of a suite were stopped as ran
few-stopped : (others : OthersView) (how : EarlyEnd) (s : SuiteState) (tests : List RunningView)
    → sum_by outside (early_notes others how s tests) ≤ length tests
few-stopped others how s tests =
    let crashed = crashed_of s how tests in
    let stopped = stopped_of s how tests in
    let named = is_none (suite_name s) in
    let few : cond named (length stopped) 0 ≤ length stopped = grind arith in
    omega (
      arith,
      few,
      of-early outside not-outside (λ t. refl) (λ d. refl) named others how.end s crashed stopped (λ t. refl),
      none-outside (early_state s crashed) (early_rest s stopped),
      length-filter (λ t. not (crashes s how t)) tests,
      count_by-le-length (λ t. not (crashes s how t)) tests,
    )

-- a suite that has a number, or tests outside of a suite, of which none is announced, and of which as many started as run
same-early : (others : OthersView) (how : EarlyEnd) (s : SuiteState) (tests : List RunningView) → (s.number ≡ None → s.test_count ≡ None)
    → (s.number ≡ None → length tests ≤ s.started) → Same (early_notes others how s tests)
same-early others how s tests fine started =
    let crashed = crashed_of s how tests in
    let stopped = stopped_of s how tests in
    let last = early_state s crashed in
    let rest = early_rest s stopped in
    record {
      same = omega (
        arith,
        of-early named_not_run not-outside (λ t. refl) (λ d. refl) (is_none (suite_name s)) others how.end s crashed stopped (λ t. refl),
        of-early not_run_of (λ t _. refl) (λ t. refl) (λ d. refl) false others how.end s crashed stopped (λ t. refl),
        same-numbers last rest (length stopped)
            (λ h. none-announced s.test_count rest.skipped last.stats.finished_count rest.left (fine (no-name last h))),
      );
      known = λ some. early-cause others how s tests (λ zero. omega (arith, some, few-stopped others how s tests, started zero));
    }

same-last : (s : SuiteState) (e : Explanation) (tests : List RunningView) → s.number ≢ None → Same (last_by s e tests)
same-last s e tests some =
    let last = last_state s e tests in
    let rest = rest_of s e tests in
    let unnamed : ◌≡◌ {A = ℕ} (cond (is_none (suite_name last)) 0 0) 0 = grind arith in
    record {
      same = omega (
        arith,
        unnamed,
        of-last named_not_run not-outside (λ t. refl) (λ d. refl) s e tests,
        of-last not_run_of (λ t _. refl) (λ t. refl) (λ d. refl) s e tests,
        same-numbers last rest 0 (λ h. absurd (some (no-name last h))),
      );
      known = λ more. absurd (omega (
        arith,
        more,
        of-last outside not-outside (λ t. refl) (λ d. refl) s e tests,
        none-outside last rest,
      ));
    }

-- all that is open ends early
same-ends : (how : EarlyEnd) (t : Step) (suites : List SuiteState) → sum_by (weigh unnumbered) suites ≡ 0 → Same t.notes
    → Same (fold (ended_early how) t suites).notes
same-ends how t [] numbered same = same
same-ends how t (s ∷ suites) numbered same =
    let tests = tests_in t.run s in
    let own = cancelled_by t.run.cancel s in
    let parts = sum_by-cons (weigh unnumbered) s suites in
    let some : s.number ≢ None = λ zero. omega (arith, ap (λ n. unnumbered n s.said s.test_count) zero) in
    same-ends how (ended_early how t s) suites (omega arith)
    (same-append t.notes (early_notes t.run.others how own tests) same
    (same-early t.run.others how own tests (λ zero. absurd (some zero)) (λ zero. absurd (some zero))))

-- fewer tests run when suites have ended
ends-low : (how : EarlyEnd) (t : Step) (suites : List SuiteState) → sum_by lone (fold (ended_early how) t suites).run.running ≤ sum_by lone t.run.running
ends-low how t [] = omega arith
ends-low how t (s ∷ suites) = omega (arith, ends-low how (ended_early how t s) suites, filter-low s.number t.run.running)

same-all : (how : EarlyEnd) (r : RunState) → weight_of unnumbered r ≡ 0 → IsOutside r → Same (all_ended_early how r).notes
same-all how r numbered i =
    let none = step (record r { suites = [] }) [] in
    let ended = fold (ended_early how) none r.suites in
    let tests = tests_in (record (ended.run) { outside = outside_start }) r.outside in
    let own = cancelled_by ended.run.cancel r.outside in
    let few : length tests ≤ r.outside.started = omega (
      arith,
      i.2,
      ap (λ (n : Option ℕ). length (filter (is_of n) ended.run.running)) i.0,
      length-filter (is_of None) ended.run.running,
      ends-low how none r.suites,
    ) in
    same-append ended.notes (early_notes ended.run.others how own tests) (same-ends how none r.suites numbered (same-none [] refl refl refl))
    (same-early ended.run.others how own tests (λ zero. i.1) (λ zero. few))

-- a line
same-first : (r : RunState) (key : Option (List ℕ)) (count : Option ℕ) (at : Option ℕ) → IsIn r.suites at → weight_of unnumbered r ≡ 0
    → Same (option_map_or (started_again r key count) at (step (opened r key count) [])).notes
same-first r key count None in' numbered = same-none [] refl refl refl
same-first r (Some key) count (Some at) in' numbered = same-none [] refl refl refl
same-first r None count (Some at) in' numbered =
    let s = cancelled_by r.cancel (suite_at r (Some at)) in
    let some = has-number r at numbered in' in
    same-early r.others nothing_known s (tests_in r s) (λ zero. absurd (some zero)) (λ zero. absurd (some zero))

same-over : (r : RunState) (e : SuiteEndView) (at : ℕ) (over : Bool) → at < length r.suites → weight_of unnumbered r ≡ 0
    → let s = with_line (suite_at r (Some at)) e in
    Same (if over then step (without_tests (record r { suites = remove r.suites at }) s) (last_notes (cancelled_by r.cancel s) (tests_in r s))
    else step (with_suite_at r (Some at) s) []).notes
same-over r e at true in' numbered =
    let s = with_line (suite_at r (Some at)) e in
    let tests = tests_in r s in
    same-last (cancelled_by r.cancel s) (explained_of s (length tests)) tests (has-number r at numbered in')
same-over r e at false in' numbered = same-none [] refl refl refl

same-ended : (r : RunState) (e : SuiteEndView) (at : Option ℕ) → IsIn r.suites at → weight_of unnumbered r ≡ 0
    → Same (option_map_or (ended_at r e) at (step r (stray_suite_notes e))).notes
same-ended r e None in' numbered = same-if (counts_tests e) (StraySuiteEnds e.key e.failed_verdict)
same-ended r e (Some at) in' numbered = same-over r e at ((with_line (suite_at r (Some at)) e).open_lines == 0) in' numbered

same-told : (r : RunState) (e : EventView) → weight_of unnumbered r ≡ 0 → IsOutside r → Same (told r e).notes
same-told r (SuiteStarts key count) numbered i =
    same-first r key count (open_suite r key) (position-in (has_key key) r.suites (open_suite r key) refl) numbered
same-told r (SuiteEnds e) numbered i =
    same-ended r e (open_suite r e.key) (position-in (has_key e.key) r.suites (open_suite r e.key) refl) numbered
same-told r (TestEnds e) numbered i =
    let place = place_of_end r.running e.name in
    same-none _ (of-test named_not_run not-outside (λ t. refl) (λ d. refl) r e place)
    (of-test not_run_of (λ t _. refl) (λ t. refl) (λ d. refl) r e place) (of-test outside not-outside (λ t. refl) (λ d. refl) r e place)
same-told r (AllEndEarly end) numbered i = same-all (early_end r end) r numbered i
same-told r e numbered i = same-none _ refl refl refl

same-line : (r : RunState) (e : EventView) → weight_of unnumbered r ≡ 0 → IsOutside r → Same (notes_at r e)
same-line r e numbered i =
    let only = only-settled_at r e in
    same-append (settled_at r e).notes (told (ready r e) e).notes
    (same-none _ (reports-none only named_not_run (λ report. refl)) (reports-none only not_run_of (λ report. refl))
    (reports-none only outside (λ report. refl))) (same-told (ready r e) e (numbered-ready r e numbered) (outside-ready r e i))

-- the end of a file
same-end : (r : RunState) → weight_of unnumbered r ≡ 0 → IsOutside r → Same (file_notes r)
same-end r numbered i =
    let over = same-all nothing_known (reported_run r) (numbered-reported r numbered) (outside-reported r i) in
    record {
      same = omega (arith, over.same, suites-alone named_not_run (λ d. refl) r, suites-alone not_run_of (λ d. refl) r);
      known = λ some. omega (arith, over.known (omega (arith, some, suites-alone outside (λ d. refl) r)), end-parts weight r);
    }

-- what holds at each line and at each end of a file
abbrev Named : ℕ → List NoteView → RunState → Type 0
Named n notes r = (weight_of unnumbered r ≡ 0) × IsOutside r × Same notes

all-named : (settings : RunSettings) (files : List (List EventView)) → Same (all_notes settings files)
all-named settings files =
    (over-run Named Named (λ e. 0) (λ n notes r i. i)
    (λ n notes r e i. (numbered-line r e i.0, outside-line r e i.0 i.1, same-append notes (notes_at r e) i.2 (same-line r e i.0 i.1)))
    (λ n notes r i. (numbered-end r, outside-end r i.1, same-append notes (file_notes r) i.2 (same-end r i.0 i.1)))
    settings (refl, (refl, refl, omega arith), same-none [] refl refl refl) files).2

pub not-run-named : NotRunIsNamed
not-run-named settings files = (all-named settings files).same

-- a test of a suite that was not run is in a note that names the suite
abbrev pub of_suites : NoteView → ℕ
of_suites note = cond (is_not_run note) (named_not_run note) 0

-- if no test failed and there is no contradiction, the note of each test that was not run names a suite
pub suites-named : (settings : RunSettings) (files : List (List EventView)) → count_by is_cause (all_notes settings files) ≡ 0
    → sum_by of_suites (all_notes settings files) ≡ not_run_in (all_notes settings files)
suites-named settings files none =
    let notes = all_notes settings files in
    let named = all-named settings files in
    let quiet : sum_by outside notes ≡ 0 = elim (cases_lt 0 (sum_by outside notes)) [
      | inl some ↦ absurd (omega (arith, none, named.known some))
      | inr few ↦ omega (arith, few)
    ] in
    omega (arith, named.same, quiet, sum-both named_not_run of_suites outside each notes)
  where
    each : (note : NoteView) → named_not_run note ≡ of_suites note + outside note
    each (TestIs t) = grind arith
    each (IsNotRun suite n of) = omega arith
    each note = refl
