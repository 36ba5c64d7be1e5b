-- A list without the first element that passes.
use Rattle.std.proofs.Common.{◌≡◌, suc, List, [], ◌∷◌, ◌++◌, ◌<◌, ◌≤◌, inl, inr, Bool, true, false, not, filter, refl, ap, sym, arith, length, Some, None, option_map}
use Rattle.std.specs.List.{position, position_or_len, remove}
use Rattle.std.specs.Option.{option_map_or}
use Rattle.std.proofs.lemmas.Bool.{cases_Bool, ltb-true, ltb-false}
use Rattle.std.proofs.Common.{ltb}
use Rattle.test_report_run.specs.Running.{RunningView, running_at, running_test_view, running_view}
use Rattle.test_report_run.specs.declared.running.RunningTest.{RunningTest}

-- the elements that pass begin with the first one, and the others stay
abbrev pub Takes : (RunningView → Bool) → List RunningView → RunningView → List RunningView → Type 0
Takes p tests test rest = (filter p tests ≡ test ∷ filter p rest)
    × (filter (λ t. not (p t)) rest ≡ filter (λ t. not (p t)) tests) × (length rest < length tests)

takes-here : (p : RunningView → Bool) (t : RunningView) (tests : List RunningView) → p t ≡ true → Takes p (t ∷ tests) t tests
takes-here p t tests here = rw here (refl, refl, omega arith)

takes-later : (p : RunningView → Bool) (t test : RunningView) (tests rest : List RunningView)
    → p t ≡ false → Takes p tests test rest → Takes p (t ∷ tests) test (t ∷ rest)
takes-later p t test tests rest here takes = rw here (takes.0, ap (λ ts. t ∷ ts) takes.1, omega (arith, takes.2))

takes_place : (p : RunningView → Bool) (tests : List RunningView) → position_or_len p tests < length tests
    → Takes p tests (running_at tests (position_or_len p tests)) (remove tests (position_or_len p tests))
takes_place p [] within = absurd (omega (arith, within))
takes_place p (t ∷ tests) within = elim (cases_Bool (p t))
    as (λ _. Takes p (t ∷ tests) (running_at (t ∷ tests) (position_or_len p (t ∷ tests))) (remove (t ∷ tests) (position_or_len p (t ∷ tests)))) [
      | inl here ↦
          let at : position_or_len p (t ∷ tests) ≡ 0 = rw here refl in
          rw at (takes-here p t tests here)
      | inr later ↦
          let place = position_or_len p tests in
          let next : position_or_len p (t ∷ tests) ≡ suc place = rw later (omega arith) in
          let inside : suc place < length (t ∷ tests) = rw (sym next) within in
          rw next (takes-later p t (running_at tests place) tests (remove tests place) later (takes_place p tests (omega (arith, inside))))
    ]

-- the elements without the first one that passes
pub takes_first : (p : RunningView → Bool) (tests : List RunningView) (test : RunningView) → Some test ≡ option_map (running_at tests) (position p tests)
    → Takes p tests test (option_map_or (remove tests) (position p tests) tests)
takes_first p tests test found = elim (cases_Bool (ltb (position_or_len p tests) (length tests)))
    as (λ _. Takes p tests test (option_map_or (remove tests) (position p tests) tests)) [
      | inl within ↦
          let at : position p tests ≡ Some (position_or_len p tests) = rw within refl in
          let is : test ≡ running_at tests (position_or_len p tests) = grind (arith, found, at) in
          rw (at, is) (takes_place p tests (ltb-true _ _ within))
      | inr past ↦
          let at : position p tests ≡ None = rw past refl in
          absurd (grind (arith, found, at))
    ]

-- no element passes, and all stay
none_takes : (p : RunningView → Bool) (tests : List RunningView) → length tests ≤ position_or_len p tests
    → (filter p tests ≡ []) × (filter (λ t. not (p t)) tests ≡ tests)
none_takes p [] past = (refl, refl)
none_takes p (t ∷ tests) past = elim (cases_Bool (p t)) as (λ _. (filter p (t ∷ tests) ≡ []) × (filter (λ t. not (p t)) (t ∷ tests) ≡ (t ∷ tests))) [
  | inl here ↦
      let at : position_or_len p (t ∷ tests) ≡ 0 = rw here refl in
      absurd (omega (arith, past, at))
  | inr later ↦
      let next : position_or_len p (t ∷ tests) ≡ suc (position_or_len p tests) = rw later (omega arith) in
      let none = none_takes p tests (omega (arith, past, next)) in
      rw later (none.0, ap (λ ts. t ∷ ts) none.1)
]

pub takes_none : (p : RunningView → Bool) (tests : List RunningView) → None ≡ option_map (running_at tests) (position p tests)
    → (filter p tests ≡ []) × (filter (λ t. not (p t)) tests ≡ tests) × (option_map_or (remove tests) (position p tests) tests ≡ tests)
takes_none p tests found = elim (cases_Bool (ltb (position_or_len p tests) (length tests)))
    as (λ _. (filter p tests ≡ []) × (filter (λ t. not (p t)) tests ≡ tests) × (option_map_or (remove tests) (position p tests) tests ≡ tests)) [
      | inl within ↦
          let at : position p tests ≡ Some (position_or_len p tests) = rw within refl in
          absurd (grind (arith, found, at))
      | inr past ↦
          let at : position p tests ≡ None = rw past refl in
          let none = none_takes p tests (ltb-false _ _ past) in
          (none.0, none.1, rw at refl)
    ]

-- the views with one more test before others
pub view_push : (taken : List RunningTest) (test : RunningTest) (rest : List RunningView)
    → running_view (taken ++ test ∷ []) ++ rest ≡ running_view taken ++ running_test_view test ∷ rest
view_push [] test rest = refl
view_push (t ∷ taken) test rest = ap (λ ts. running_test_view t ∷ ts) (view_push taken test rest)
