use Rattle.std.proofs.Common.{◌≡◌, ◌∙◌, ◌-◌, ap, arith, refl, subst, take}
use Rattle.test_report_events.proofs.Endings.{no_heading_end}
use Rattle.test_report_events.specs.Cargo.{IsHeading}
use Rattle.test_report_events.specs.Content.{path_of, suite_of}
use Rattle.test_report_events.specs.Time.{without_spaces}
use Rattle.test_report_events.proofs.text.heading_end.Goals as goal

pub returns-in_err-at : goal.returns-in_err-at
returns-in_err-at c = rw c.from_residual.ensures (λ at e h. c.in_err-at.ensures at h.0.holds)

pub returns-in_err-heading : goal.returns-in_err-heading
returns-in_err-heading c = rw c.from_residual-in_err-heading.ensures
    (no_heading_end c.args.plain.now c.without_spaces.result.now c.in_ok-at.at c.in_ok-at.ensures
    (c.without_spaces.ensures ∙ ap without_spaces c.range_from-text.ensures.value) c.in_err-heading.ensures)

pub returns : goal.returns
returns c =
    let heading = c.in_ok-heading.heading in
    let text = c.without_spaces.ensures ∙ ap without_spaces c.range_from-text.ensures.value in
    let is = subst (λ t. IsHeading t (suite_of heading) (path_of heading)) text c.in_ok-heading.ensures in
    let at = c.in_ok-at.at in
    let start : at - 0 ≡ at = omega arith in (
      at,
      c.range.ensures.value ∙ ap (λ n. take n c.args.plain.now) start,
      c.range_from-text.ensures.value,
      (c.in_ok-at.ensures, (suite_of heading, path_of heading, is, refl)),
    )
