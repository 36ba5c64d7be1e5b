use Rattle.std.proofs.Common.{◌≡◌, ◌∙◌, ◌-◌, None, Some, ap, arith, codes, sym, take}
use Rattle.test_report_events.proofs.Endings.{no_failure_end}
use Rattle.test_report_events.proofs.LastAt.{text-found}
use Rattle.test_report_events.specs.Cargo.{failure_of}
use Rattle.test_report_events.specs.Event.{CargoFails}
use Rattle.test_report_events.proofs.text.failure_end.Goals as goal

pub returns-in_err-at : goal.returns-in_err-at
returns-in_err-at c = rw c.from_residual.ensures
    (λ at e h. text-found c.args.plain.now (codes "error: ") None (omega arith) c.in_err-at.ensures.cases at h.0.holds)

pub returns-in_err-failure : goal.returns-in_err-failure
returns-in_err-failure c = rw c.from_residual-in_err-failure.ensures
    (no_failure_end c.args.plain.now c.range_from-text.result.now c.in_ok-at.at
    (text-found c.args.plain.now (codes "error: ") (Some c.in_ok-at.at) (omega arith) c.in_ok-at.ensures.cases)
    c.range_from-text.ensures.value c.in_err-failure.ensures)

pub returns : goal.returns
returns c =
    let plain = c.args.plain.now in
    let at = c.in_ok-at.at in
    let start : at - 0 ≡ at = omega arith in (
      at,
      c.range.ensures.value ∙ ap (λ n. take n c.args.plain.now) start,
      c.range_from-text.ensures.value,
      (
        text-found plain (codes "error: ") (Some at) (omega arith) c.in_ok-at.ensures.cases,
        (
          c.in_ok-failure.failure,
          sym (c.in_ok-failure.ensures ∙ ap failure_of c.range_from-text.ensures.value),
          ap (λ t. CargoFails c.in_ok-failure.failure t t) c.range_from-text.ensures.value,
        ),
      ),
    )
