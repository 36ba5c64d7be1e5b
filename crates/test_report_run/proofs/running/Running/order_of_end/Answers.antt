-- The test with the written name, or the one with the name before the number of attempts.
use Rattle.std.proofs.Common.{◌≡◌, ◌∙◌, ℕ, List, None, Option, Some, ap, option_and_then, option_map, position, sym}
use Rattle.std.specs.Map.{values_of}
use Rattle.test_report_run.proofs.FirstTests.{none_view, place_view}
use Rattle.test_report_run.proofs.Firsts.{IsFirst, first_place, none_passes}
use Rattle.test_report_run.specs.Running.{RunningView, has_name, place_by_attempts, place_of_end, running_test_view, split_of, tests_of}
use Rattle.test_report_run.proofs.running.Running.order_of_end.Goals as goal

-- where the test is, by the position of the first one with the written name
abbrev place_by : List RunningView → List ℕ → Option ℕ → Option (ℕ × ℕ)
place_by tests written place = elim place as (λ _. Option (ℕ × ℕ)) [
  | Some at ↦ Some (at, 1)
  | None ↦ option_and_then (place_by_attempts tests) (split_of written)
]

own_name : (tests : List RunningView) (written : List ℕ) (at : ℕ) → position (has_name written) tests ≡ Some at
    → place_of_end tests written ≡ place_by_attempts tests (written, 1)
own_name tests written at is = ap (place_by tests written) is ∙ sym (ap (option_map (λ at. (at, 1))) is)

other_name : (tests : List RunningView) (written : List ℕ) (split : Option (List ℕ × ℕ)) → position (has_name written) tests ≡ None
    → split ≡ split_of written → place_of_end tests written ≡ option_and_then (place_by_attempts tests) split
other_name tests written split is same = ap (place_by tests written) is ∙ ap (option_and_then (place_by_attempts tests)) (sym same)

pub returns-in-Some-clause-named : goal.returns-in-Some-clause-named
returns-in-Some-clause-named c =
    let name = c.args.written.now in
    let run = c.args.self.now in
    let order = c.in-Some.order in
    let first : IsFirst (λ t. has_name name (running_test_view t)) run.tests.entries order =
    first_place (λ t. has_name name (running_test_view t)) run.tests.entries order run.ordered (sym (run.named name order) ∙ c.in-Some.ensures.first)
    (λ n passed. c.in-Some.ensures.least n (run.named name n ∙ passed)) in (
      name,
      sym (run.named name order) ∙ c.in-Some.ensures.first,
      λ n passed. c.in-Some.ensures.least n (run.named name n ∙ passed),
      own_name (tests_of run) name _ (place_view (has_name name) (values_of run.tests.entries) first.0),
    )

pub returns-in_ok-order-in-None-clause-named : goal.returns-in_ok-order-in-None-clause-named
returns-in_ok-order-in-None-clause-named c =
    let written = c.args.written.now in
    let run = c.args.self.now in
    let name = c.in_ok-name-in-None.name.now in
    let found = c.in_ok-order-in-None in
    let other = none_view (has_name written) (values_of run.tests.entries) (none_passes (λ t. has_name written (running_test_view t)) run.tests.entries
    run.ordered (λ n. sym (run.named written n) ∙ c.in-None.ensures.none n)) in (
      name,
      sym (run.named name found.order) ∙ found.ensures.first,
      λ n passed. found.ensures.least n (run.named name n ∙ passed),
      other_name (tests_of run) written _ other c.in_ok-name-in-None.ensures,
    )

pub returns-in_err-name-in-None-clause-none : goal.returns-in_err-name-in-None-clause-none
returns-in_err-name-in-None-clause-none c =
    let written = c.args.written.now in
    let run = c.args.self.now in
    let other = none_view (has_name written) (values_of run.tests.entries) (none_passes (λ t. has_name written (running_test_view t)) run.tests.entries
    run.ordered (λ n. sym (run.named written n) ∙ c.in-None.ensures.none n)) in
    rw c.from_residual.ensures (other_name (tests_of run) written _ other c.in_err-name-in-None.ensures)

pub returns-in_err-order-in-None-clause-none : goal.returns-in_err-order-in-None-clause-none
returns-in_err-order-in-None-clause-none c =
    let written = c.args.written.now in
    let run = c.args.self.now in
    let name = c.in_ok-name-in-None.name.now in
    let other = none_view (has_name written) (values_of run.tests.entries) (none_passes (λ t. has_name written (running_test_view t)) run.tests.entries
    run.ordered (λ n. sym (run.named written n) ∙ c.in-None.ensures.none n)) in
    let none = none_view (has_name name) (values_of run.tests.entries) (none_passes (λ t. has_name name (running_test_view t)) run.tests.entries
    run.ordered (λ n. sym (run.named name n) ∙ c.in_err-order-in-None.ensures.none n)) in
    rw c.from_residual-in_err-order-in-None.ensures (other_name (tests_of run) written _ other c.in_ok-name-in-None.ensures
    ∙ ap (option_map (λ at. (at, c.in_ok-name-in-None.attempts))) none)
