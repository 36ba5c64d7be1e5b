-- The tests outside of suites: they have no number, none is announced, and at least as many started as run.
use Rattle.std.proofs.Common.{◌≡◌, ◌≢◌, ◌∙◌, ◌≤◌, ◌+◌, ℕ, List, [], ◌∷◌, ◌++◌, Bool, true, false, Option, Some, None, cond, refl, ap, arith, drop, inl, inr, length, subst, suc, sym, take}
use Rattle.std.specs.List.{fold, remove, sum_by}
use Rattle.std.specs.Option.{option_map_or}
use Rattle.std.specs.Prelude.{◌==◌, filter, if◌then◌else◌, not}
use Rattle.std.proofs.lemmas.Bool.{cases_lt, cond_both}
use Rattle.std.proofs.lemmas.List.{drop_all, set_past}
use Rattle.std.proofs.lemmas.List.Filters.{sum_by-filter_both}
use Rattle.std.proofs.lemmas.List.Sums.{sum_by-append, sum_by-cons, sum_by-remove, sum_by-set, sum_by-take-le, sum_by_push}
use Rattle.test_report_events.specs.Event.{AllEndEarly, CargoFails, EventView, Prints, SuiteEndView, SuiteEnds, SuiteStarts, TestEndView, TestEnds, TestIsSlow, TestStarts}
use Rattle.test_report_events.specs.declared.event.TestResult.{TestResult}
use Rattle.test_report_events.specs.declared.event.TestResult.TheVariants.{Ok, Failed, Ignored}
use Rattle.test_report_laws.proofs.Books.{IsIn, place-in}
use Rattle.test_report_laws.proofs.CargoReports.{only-cargo, only-settled_at, only-told, ready}
use Rattle.test_report_laws.proofs.FileEnds.{reported_run}
use Rattle.test_report_laws.proofs.Sums.{one-most}
use Rattle.test_report_laws.proofs.Weights.{has-number, numbered-ready, unnumbered, weight_of}
use Rattle.test_report_run.specs.Ended.{after_end}
use Rattle.test_report_run.specs.FileEnd.{after_file}
use Rattle.test_report_run.specs.Over.{EarlyEnd, last_notes, nothing_known}
use Rattle.test_report_run.specs.Run.{RunState, Step, after, all_ended_early, early_end, ended_at, ended_early, open_suite, opened, place_of_number, running_ends, running_over, slow_at, started_again, step, stray_ends, stray_over, stray_suite_notes, suite_at, suite_place, tests_in, told, with_suite_at, without_tests}
use Rattle.test_report_run.specs.Running.{RunningView, is_of, is_same, no_test, place_of_end, running_at, with_slow}
use Rattle.test_report_run.specs.Suite.{OverView, SuiteState, cancelled_by, named, with_line, with_start}

-- a test that runs outside of a suite
abbrev pub lone : RunningView → ℕ
lone t = cond (is_of None t) 1 0

abbrev pub IsOutside : RunState → Type 0
IsOutside r = (r.outside.number ≡ None) × (r.outside.test_count ≡ None) × (sum_by lone r.running ≤ r.outside.started)

-- fewer tests run
remove-low : (tests : List RunningView) (i : ℕ) → sum_by lone (remove tests i) ≤ sum_by lone tests
remove-low tests i = elim (cases_lt i (length tests)) [
  | inl in' ↦ omega (arith, sum_by-remove lone tests i no_test in')
  | inr past ↦ omega (
    arith,
    sum_by-append lone (take i tests) (drop (suc i) tests),
    sum_by-take-le lone tests i,
    ap (sum_by lone) (drop_all (suc i) tests (omega arith)),
  )
]

slow-low : (tests : List RunningView) (i : ℕ) → sum_by lone (with_slow tests i) ≤ sum_by lone tests
slow-low tests i =
    let slow : RunningView = record (running_at tests i) { slow = true } in
    elim (cases_lt i (length tests)) [
      | inl in' ↦ omega (arith, sum_by-set lone tests i slow no_test in')
      | inr past ↦ omega (arith, ap (sum_by lone) (set_past tests i slow past))
    ]

pub filter-low : (number : Option ℕ) (tests : List RunningView) → sum_by lone (filter (λ t. not (is_of number t)) tests) ≤ sum_by lone tests
filter-low number tests = omega (arith, sum_by-filter_both (is_of number) (λ t. not (is_of number t)) (λ t. refl) lone tests)

-- and none outside of a suite when these are over
filter-first : (t : RunningView) (rest : List RunningView) (b : Bool) → is_of None t ≡ b → sum_by lone rest ≡ 0
    → sum_by lone (if not b then t ∷ rest else rest) ≡ 0
filter-first t rest true is none = none
filter-first t rest false is none = omega (arith, none, sum_by-cons lone t rest, ap {B = ℕ} (λ (b : Bool). cond b 1 0) is)

filter-none : (tests : List RunningView) → sum_by lone (filter (λ t. not (is_of None t)) tests) ≡ 0
filter-none [] = refl
filter-none (t ∷ tests) = filter-first t (filter (λ t. not (is_of None t)) tests) (is_of None t) refl (filter-none tests)

-- a suite with the number and the announced tests of another one, and as many tests that started
abbrev Follows : SuiteState → SuiteState → Type 0
Follows s old = (s.number ≡ old.number) × (s.test_count ≡ old.test_count) × (old.started ≤ s.started)

outside-at : (r : RunState) (running : List RunningView) (at : Option ℕ) (s : SuiteState) → sum_by lone running ≤ sum_by lone r.running
    → Follows s (suite_at r at) → IsOutside r → IsOutside (with_suite_at (record r { running = running }) at s)
outside-at r running None s low f i = (f.0 ∙ i.0, f.1 ∙ i.1, omega (arith, low, f.2, i.2))
outside-at r running (Some at) s low f i = (i.0, i.1, omega (arith, low, i.2))

end-follows : (s : SuiteState) (t : OverView) (order : ℕ) (e : TestEndView) (how : TestResult) → Follows (after_end s t order (record e { result = how })) s
end-follows s t order e Ok = (grind arith, grind arith, grind arith)
end-follows s t order e Failed = (refl, refl, omega arith)
end-follows s t order e Ignored = (refl, refl, omega arith)

outside-stray : (r : RunState) (e : TestEndView) (how : TestResult) → IsOutside r → IsOutside (stray_ends r (record e { result = how })).run
outside-stray r e Ok i = i
outside-stray r e Failed i =
    let at = suite_place r e.name in
    outside-at r r.running at _ (omega arith) (end-follows (named (suite_at r at) e.name) (stray_over r e) 0 e Failed) i
outside-stray r e Ignored i =
    let at = suite_place r e.name in
    outside-at r r.running at _ (omega arith) (end-follows (named (suite_at r at) e.name) (stray_over r e) 0 e Ignored) i

outside-test : (r : RunState) (e : TestEndView) (place : Option (ℕ × ℕ)) → IsOutside r
    → IsOutside (option_map_or (λ p. running_ends r e p.0 p.1) place (stray_ends r e)).run
outside-test r e None i = outside-stray r e e.result i
outside-test r e (Some p) i =
    let test = running_at r.running p.0 in
    let r' = record r { running = remove r.running p.0 } in
    let at = place_of_number r' test.suite in
    let over = running_over r' e test p.1 in
    let s = after_end (suite_at r' at) over test.order e in
    outside-at r (remove r.running p.0) at s (remove-low r.running p.0) (same at s (end-follows (suite_at r' at) over test.order e e.result)) i
  where
    same : (at : Option ℕ) (s : SuiteState) → Follows s (suite_at (record r { running = remove r.running p.0 }) at) → Follows s (suite_at r at)
    same None s f = f
    same (Some at) s f = f

outside-slow : (r : RunState) (place : Option (ℕ × ℕ)) → IsOutside r → IsOutside (option_map_or (λ p. slow_at r p.0) place r)
outside-slow r None i = i
outside-slow r (Some p) i = by-place (place_of_number r (running_at r.running p.0).suite)
  where
    by-place : (at : Option ℕ) → IsOutside (record (with_suite_at r at (suite_at r at)) { running = with_slow r.running p.0 })
    by-place None = (i.0, i.1, omega (arith, i.2, slow-low r.running p.0))
    by-place (Some at) = (i.0, i.1, omega (arith, i.2, slow-low r.running p.0))

-- a test that starts runs outside of suites, or in a suite that has a number
not-lone : (number : Option ℕ) → number ≢ None → is_same number None ≡ false
not-lone None some = absurd (some refl)
not-lone (Some n) some = refl

outside-start : (r : RunState) (name : List ℕ) (at : Option ℕ) → IsIn r.suites at → weight_of unnumbered r ≡ 0 → IsOutside r
    → IsOutside (record (with_suite_at r at (with_start (suite_at r at) name)) {
      running = r.running ++ record { name = name; suite = (suite_at r at).number; order = r.tests_started; slow = false } ∷ [];
      tests_started = r.tests_started + 1;
    })
outside-start r name None in' numbered i =
    let t : RunningView = record { name = name; suite = r.outside.number; order = r.tests_started; slow = false } in
    (i.0, i.1, omega (arith, i.2, sum_by_push lone r.running t, one-most (is_of None t)))
outside-start r name (Some at) in' numbered i =
    let t : RunningView = record { name = name; suite = (suite_at r (Some at)).number; order = r.tests_started; slow = false } in
    let none = ap {B = ℕ} (λ (b : Bool). cond b 1 0) (not-lone t.suite (has-number r at numbered in')) in
    (i.0, i.1, omega (arith, i.2, sum_by_push lone r.running t, none))

outside-first : (r : RunState) (key : Option (List ℕ)) (count : Option ℕ) (at : Option ℕ) → IsOutside r
    → IsOutside (option_map_or (started_again r key count) at (step (opened r key count) [])).run
outside-first r key count None i = i
outside-first r (Some key) count (Some at) i = i
outside-first r None count (Some at) i =
    (i.0, i.1, omega (arith, i.2, filter-low (suite_at r (Some at)).number r.running))

outside-ended : (r : RunState) (e : SuiteEndView) (at : Option ℕ) → IsOutside r
    → IsOutside (option_map_or (ended_at r e) at (step r (stray_suite_notes e))).run
outside-ended r e None i = i
outside-ended r e (Some at) i =
    let s = with_line (suite_at r (Some at)) e in
    cond_both (s.open_lines == 0) (step (without_tests (record r { suites = remove r.suites at }) s) (last_notes (cancelled_by r.cancel s) (tests_in r s)))
    (step (with_suite_at r (Some at) s) []) (λ (t : Step). IsOutside t.run)
    (λ _. (i.0, i.1, omega (arith, i.2, filter-low s.number r.running))) (λ _. i)

-- none is left when all that is open ends early
pub outside-all : (how : EarlyEnd) (r : RunState) → r.outside.number ≡ None → IsOutside (all_ended_early how r).run
outside-all how r is =
    let ended = fold (ended_early how) (step (record r { suites = [] }) []) r.suites in
    let none : sum_by lone (filter (λ t. not (is_of r.outside.number t)) ended.run.running) ≡ 0 =
    ap (λ (n : Option ℕ). sum_by lone (filter (λ t. not (is_of n t)) ended.run.running)) is ∙ filter-none ended.run.running in
    (refl, refl, omega (arith, none))

outside-told : (r : RunState) (e : EventView) → weight_of unnumbered r ≡ 0 → IsOutside r → IsOutside (told r e).run
outside-told r (SuiteStarts key count) numbered i = outside-first r key count (open_suite r key) i
outside-told r (SuiteEnds e) numbered i = outside-ended r e (open_suite r e.key) i
outside-told r (TestStarts name) numbered i = outside-start r name (suite_place r name) (place-in r name) numbered i
outside-told r (TestEnds e) numbered i = outside-test r e (place_of_end r.running e.name) i
outside-told r (TestIsSlow name) numbered i = outside-slow r (place_of_end r.running name) i
outside-told r (CargoFails f line plain) numbered i = subst IsOutside (sym (only-cargo r f plain).run_is) i
outside-told r (AllEndEarly end) numbered i = outside-all (early_end r end) r i.0
outside-told r e numbered i = i

outside-after : (r : RunState) (e : EventView) → IsOutside (told (ready r e) e).run → IsOutside (after r e)
outside-after r (Prints line plain) i = i
outside-after r e i = i

pub outside-ready : (r : RunState) (e : EventView) → IsOutside r → IsOutside (ready r e)
outside-ready r e i = subst IsOutside (sym (only-settled_at r e).run_is) i

pub outside-line : (r : RunState) (e : EventView) → weight_of unnumbered r ≡ 0 → IsOutside r → IsOutside (after r e)
outside-line r e numbered i = outside-after r e (outside-told (ready r e) e (numbered-ready r e numbered) (outside-ready r e i))

-- and at the end of a file
pub outside-reported : (r : RunState) → IsOutside r → IsOutside (reported_run r)
outside-reported r i = subst IsOutside (sym (only-told r).run_is) i

pub outside-end : (r : RunState) → IsOutside r → IsOutside (after_file r)
outside-end r i = outside-all nothing_known (reported_run r) (outside-reported r i).0
