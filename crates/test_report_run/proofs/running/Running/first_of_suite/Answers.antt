-- The first test of a suite.
use Rattle.std.proofs.Common.{◌≡◌, ◌∙◌, [], arith, false, inl, inr, rules, sym}
use Rattle.std.proofs.lemmas.Bool.{both_ways, cases_Bool}
use Rattle.test_report_run.proofs.OrderSteps.{place_at_most, place_between, place_le}
use Rattle.test_report_run.specs.Orders.{is_in_suite}
use Rattle.test_report_run.proofs.running.Running.first_of_suite.Goals as goal

pub returns-in-Some-clause-least : goal.returns-in-Some-clause-least
returns-in-Some-clause-least c = λ n found.
    let suite = c.args.suite in
    let place = c.in-Some.field-0.now in
    let range = c.range.ensures.in_range tt in
    let after = range.2 (suite, n) (place_le suite 0 n (omega arith), tt) (c.args.self.now.in_suites suite n ∙ found) in
    place_at_most place.0 suite place.1 n (sym c.eq.ensures ∙ c.if-eq.true) (rw c.in-Some.ensures.steps at after)

pub returns-in_default-clause-none : goal.returns-in_default-clause-none
returns-in_default-clause-none c = λ n.
    let suite = c.args.suite in
    let place = c.in-Some.field-0.now in
    let tests = c.args.self.now.tests in
    let range = c.range.ensures.in_range tt in
    elim (cases_Bool (is_in_suite tests suite n)) as (λ _. is_in_suite tests suite n ≡ false) [
      | inl found ↦
          let after = range.2 (suite, n) (place_le suite 0 n (omega arith), tt) (c.args.self.now.in_suites suite n ∙ found) in
          let to = rw c.in-Some.ensures.steps at after in
          let from = (rw c.in-Some.ensures.steps at range.1).0.0 in
          absurd (both_ways _ (sym c.eq.ensures ∙ c.if-eq.false) (place_between suite place.0 0 place.1 n from to))
      | inr none ↦ none
    ]

pub returns-in_default-2-clause-none : goal.returns-in_default-2-clause-none
returns-in_default-2-clause-none c = λ n.
    let suite = c.args.suite in
    let range = c.range.ensures.in_range tt in
    let empty : c.range.result ≡ [] = search rules in
    sym (c.args.self.now.in_suites suite n) ∙ range.5 empty (suite, n) (place_le suite 0 n (omega arith), tt)
