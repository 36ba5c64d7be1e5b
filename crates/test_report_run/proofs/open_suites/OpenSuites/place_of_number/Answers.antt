-- The position of a number.
use Rattle.std.proofs.Common.{◌≡◌, ◌∙◌, None, Some, rules, sym}
use Rattle.test_report_run.proofs.OpenSteps.{no-number, number-place, numbers-of, search-place}
use Rattle.test_report_run.specs.OpenSuites.{suites_of}
use Rattle.test_report_run.proofs.open_suites.OpenSuites.place_of_number.Goals as goal

pub returns-in_err-number : goal.returns-in_err-number
returns-in_err-number c =
    let o = c.args.self.now in
    let is : c.args.number ≡ None = search rules in
    rw (c.from_residual.ensures, is) (sym (number-place (suites_of o) o.numbers.items None (numbers-of o) ∙ no-number o.numbers.items))

pub returns : goal.returns
returns c =
    let o = c.args.self.now in
    let x = c.in_ok-number.field-0 in
    let is : c.args.number ≡ Some x = search rules in
    rw (c.ok.ensures.value, is) (sym (number-place (suites_of o) o.numbers.items (Some x) (numbers-of o)
    ∙ search-place o.numbers.items x c.binary_search.result o.rising (rw (← c.deref.ensures.value) c.binary_search.ensures.position)))
