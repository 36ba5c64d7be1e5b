-- The failed tests whose lines say that they failed.
use Rattle.std.proofs.Common.{◌≡◌, ◌∙◌, ℕ, List, [], ◌∷◌, Bool, true, false, cond, Option, Some, None, refl, ap, arith, length, inl, inr, option_and_then, option_map, subst, sym, unwrap_or}
use Rattle.std.specs.List.{count_by, find, fold, position, range_with_len}
use Rattle.std.specs.Option.{option_map_or}
use Rattle.std.specs.Prelude.{◌⊎◌, Contains, IsTrue, if◌then◌else◌}
use Rattle.std.proofs.lemmas.List.Elements.{Contains-append_right}
use Rattle.std.proofs.lemmas.List.Quantifiers.{position-Some}
use Rattle.std.proofs.lemmas.List.Sums.{sum_by-append}
use Rattle.std.proofs.lemmas.Slice.Eq.{bytes_eq-Decides}
use Rattle.test_report_events.specs.Event.{AllEndEarly, EventView, SuiteEndView, TestEndView, SuiteStarts, SuiteEnds, TestEnds}
use Rattle.test_report_events.specs.declared.event.TestResult.{TestResult}
use Rattle.test_report_events.specs.declared.event.TestResult.TheVariants.{Ok, Failed, Ignored}
use Rattle.test_report_run_notes.specs.Note.{Contradicts, Fails, NoteView, StrayEnds, StraySuiteEnds, TestIs, TestNoteView}
use Rattle.test_report_laws.proofs.CargoReports.{only-settled_at, ready, reports-none}
use Rattle.test_report_laws.proofs.EndSums.{by-early, by-last, last_by}
use Rattle.test_report_laws.proofs.FileEnds.{reported_run, suites-alone}
use Rattle.test_report_laws.proofs.Sums.{sum-if-none}
use Rattle.test_report_run.specs.Ended.{end_notes, failure_of}
use Rattle.test_report_laws.specs.Run.{FailureIsTold, NoFailureOfFileEnd, OneFailureOfLine, TellsFailure, is_failure, is_told_failure, says_failed}
use Rattle.test_report_run.specs.Others.{OthersView}
use Rattle.test_report_run.specs.Over.{EarlyEnd, crashed_of, early_notes, explained_of, nothing_known, stopped_of}
use Rattle.test_report_run.specs.Run.{RunState, Step, all_ended_early, counts_tests, early_end, ended_at, ended_early, tests_in, open_suite, opened, running_ends, running_over, settled_at, started_again, step, stray_ends, stray_over, stray_suite_notes, stray_test, suite_at, suite_place}
use Rattle.test_report_run.specs.Run as run
use Rattle.test_report_run.specs.Running.{RunningView, attempts_of, ends_in_number, has_name, is_same, no_test, place_by_attempts, place_of_end, running_at, split_at, without_number}
use Rattle.test_report_run.specs.Suite.{OverView, SuiteState, cancelled_by, named, outside_start, suite_name, with_line}
use Rattle.test_report_laws.proofs.Types.{Explanation}

abbrev pub told : List NoteView → ℕ
told notes = count_by is_told_failure notes

abbrev weight : NoteView → ℕ
weight note = cond (is_told_failure note) 1 0

-- the end of a suite tells of none
none-early : (others : OthersView) (how : EarlyEnd) (s : SuiteState) (tests : List RunningView) → told (early_notes others how s tests) ≡ 0
none-early others how s tests =
    let crashed = crashed_of s how tests in
    let stopped = stopped_of s how tests in
    omega (
      arith,
      by-early weight (λ d. refl) (λ suite n of. refl) false others how.end s crashed stopped (λ c name. refl) (λ name. refl) (λ f. refl),
    )

none-last : (s : SuiteState) (e : Explanation) (tests : List RunningView) → told (last_by s e tests) ≡ 0
none-last s e tests = omega (
  arith,
  by-last weight (λ d. refl) (λ suite n of. refl) false false s e tests (λ name. refl) (λ x. grind arith) (λ name. refl),
)

-- a line of a suite tells of none
none-again : (r : RunState) (key : Option (List ℕ)) (count : Option ℕ) (at : Option ℕ)
    → told (option_map_or (started_again r key count) at (step (opened r key count) [])).notes ≡ 0
none-again r key count None = refl
none-again r None count (Some at) = none-early r.others nothing_known (cancelled_by r.cancel (suite_at r (Some at))) (tests_in r (suite_at r (Some at)))
none-again r (Some key) count (Some at) = refl

none-ended : (r : RunState) (e : SuiteEndView) (at : Option ℕ) → told (option_map_or (ended_at r e) at (step r (stray_suite_notes e))).notes ≡ 0
none-ended r e None = sum-if-none weight (counts_tests e) (Contradicts (StraySuiteEnds e.key e.failed_verdict)) refl
none-ended r e (Some at) =
    let s = with_line (suite_at r (Some at)) e in
    let tests = tests_in r s in
    grind (arith, none-last (cancelled_by r.cancel s) (explained_of s (length tests)) tests)

-- the end of a test tells of one failed test if it says that the test failed
abbrev ends_as : TestEndView → TestResult → TestEndView
ends_as e how = record e { result = how }

one-end : (s : SuiteState) (t : OverView) (e : TestEndView) (how : TestResult)
    → told (end_notes s t (ends_as e how)) ≡ (if is_failure how then 1 else 0)
one-end s t e Ok = grind arith
one-end s t e Failed = grind arith
one-end s t e Ignored = refl

one-stray : (r : RunState) (e : TestEndView) (how : TestResult) → told (stray_ends r (ends_as e how)).notes ≡ (if is_failure how then 1 else 0)
one-stray r e Ok = refl
one-stray r e Failed = omega (
  arith,
  sum_by-append weight (stray_test r (ends_as e Failed)) (Contradicts (StrayEnds e.name Failed) ∷ []),
  one-end (named (suite_at r (suite_place r e.name)) e.name) (stray_over r e) e Failed,
)
one-stray r e Ignored = refl

one-ended : (r : RunState) (e : TestEndView) (place : Option (ℕ × ℕ))
    → told (option_map_or (λ p. running_ends r e p.0 p.1) place (stray_ends r e)).notes ≡ (if is_failure e.result then 1 else 0)
one-ended r e None = one-stray r e e.result
one-ended r e (Some p) =
    let test = running_at r.running p.0 in
    one-end (suite_at r (position (λ s. is_same s.number test.suite) r.suites)) (running_over r e test p.1) e e.result

-- the early end of all that is open tells of none
none-early-all : (how : EarlyEnd) (t : Step) (suites : List SuiteState) → told t.notes ≡ 0 → told (fold (ended_early how) t suites).notes ≡ 0
none-early-all how t [] h = h
none-early-all how t (s ∷ suites) h =
    let tests = tests_in t.run s in
    let own = cancelled_by t.run.cancel s in
    none-early-all how (ended_early how t s) suites
    (omega (arith, h, sum_by-append weight t.notes (early_notes t.run.others how own tests), none-early t.run.others how own tests))

none-all : (how : EarlyEnd) (r : RunState) → told (all_ended_early how r).notes ≡ 0
none-all how r =
    let none = step (record r { suites = [] }) [] in
    let suites = fold (ended_early how) none r.suites in
    none-early-all how (step (record (suites.run) { outside = outside_start }) suites.notes) (r.outside ∷ []) (none-early-all how none r.suites refl)

one-told : (r : RunState) (e : EventView) → told (run.told r e).notes ≡ (if says_failed e then 1 else 0)
one-told r (SuiteStarts key count) = none-again r key count (open_suite r key)
one-told r (SuiteEnds e) = none-ended r e (open_suite r e.key)
one-told r (TestEnds e) = one-ended r e (place_of_end r.running e.name)
one-told r (AllEndEarly end) = none-all (early_end r end) r
one-told r e = refl

pub one-failure : OneFailureOfLine
one-failure r e =
    let before = (settled_at r e).notes in
    let own = (run.told (ready r e) e).notes in
    omega (
      arith,
      reports-none (only-settled_at r e) weight (λ report. refl),
      one-told (ready r e) e,
      sum_by-append weight before own,
    )

-- and so does the end of a file
pub no-failure : NoFailureOfFileEnd
no-failure r = suites-alone weight (λ d. refl) r ∙ none-all nothing_known (reported_run r)

-- a failed test has what its line says
abbrev note_of : SuiteState → OverView → TestEndView → TestNoteView
note_of s t e = record {
  suite = suite_name s;
  name = t.name;
  attempts = t.attempts;
  time = t.time;
  ended = t.ended;
  slow = t.slow;
  cancel = t.cancel;
  outcome = Fails (failure_of e);
}

passes-found : (p : ℕ → Bool) (xs : List ℕ) (n : ℕ) → find p xs ≡ Some n → p n ≡ true
passes-found p [] n h = absurd (cc)
passes-found p (x ∷ xs) n h = grind (arith, passes-found p xs n)

name-at : (tests : List RunningView) (name : List ℕ) (at : ℕ) → position (has_name name) tests ≡ Some at → (running_at tests at).name ≡ name
name-at tests name at h = (bytes_eq-Decides (running_at tests at).name name).0 (position-Some (has_name name) tests at no_test h).1

-- the name by which a place was found
abbrev Named : List RunningView → List ℕ → ℕ × ℕ → Type 0
Named tests written p = (((running_at tests p.0).name ≡ written) × (p.1 ≡ 1))
    ⊎ (IsTrue (ends_in_number written p.1) × ((running_at tests p.0).name ≡ without_number written p.1))

place-by : (tests : List RunningView) (written : List ℕ) (n : ℕ) (p : ℕ × ℕ) (at : Option ℕ) → ends_in_number written n ≡ true
    → position (has_name (without_number written n)) tests ≡ at → option_map (λ (i : ℕ). (i, n)) at ≡ Some p → Named tests written p
place-by tests written n p None ends is h = absurd (cc)
place-by tests written n p (Some i) ends is h =
    subst (Named tests written) (ap (λ o. unwrap_or o p) h) (inr (ends, name-at tests (without_number written n) i is))

ends-in : (written : List ℕ) (n : ℕ) → attempts_of written ≡ Some n → ends_in_number written n ≡ true
unfolding attempts_of
ends-in written n h = passes-found (ends_in_number written) (range_with_len 2 999) n h

place-of : (tests : List RunningView) (written : List ℕ) (p : ℕ × ℕ) (at n : Option ℕ) → position (has_name written) tests ≡ at
    → attempts_of written ≡ n
    → (elim at as (λ _. Option (ℕ × ℕ)) [
      | Some i ↦ Some (i, 1)
      | None ↦ option_and_then (place_by_attempts tests) (option_map (split_at written) n)
    ]) ≡ Some p
    → Named tests written p
place-of tests written p (Some i) n is found h = subst (Named tests written) (ap (λ o. unwrap_or o p) h) (inl (name-at tests written i is, refl))
place-of tests written p None None is found h = absurd (cc)
place-of tests written p None (Some n) is found h =
    place-by tests written n p (position (has_name (without_number written n)) tests) (ends-in written n found) refl h

told-by : (r : RunState) (e : TestEndView) (place : Option (ℕ × ℕ)) → place_of_end r.running e.name ≡ place
    → (t : TestNoteView) × TellsFailure (ends_as e Failed) t
    × Contains (option_map_or (λ p. running_ends r (ends_as e Failed) p.0 p.1) place (stray_ends r (ends_as e Failed))).notes (TestIs t)
told-by r e None h =
    let s = named (suite_at r (suite_place r e.name)) e.name in
    (note_of s (stray_over r e) e, (inl (refl, refl), refl, refl), (0, omega arith, refl))
told-by r e (Some p) h =
    let test = running_at r.running p.0 in
    let s = suite_at r (position (λ s. is_same s.number test.suite) r.suites) in (
      note_of s (running_over r e test p.1) e,
      (place-of r.running e.name p (position (has_name e.name) r.running) (attempts_of e.name) refl refl h, refl, refl),
      (0, omega arith, refl),
    )

pub failure-told : FailureIsTold
failure-told r e failed =
    let e' = TestEnds e in
    let now = ready r e' in
    let found = subst (λ how. (t : TestNoteView) × TellsFailure (ends_as e how) t × Contains (run.told now (TestEnds (ends_as e how))).notes (TestIs t))
    (sym failed) (told-by now e (place_of_end now.running e.name) refl) in
    (found.0, found.1, Contains-append_right (settled_at r e').notes (run.told now e').notes (TestIs found.0) found.2)
