use Rattle.std.proofs.Common.{Some, ap, subst, sym}
use Rattle.test_report_events.specs.Cargo.{CargoSays}
use Rattle.test_report_events.specs.Content.{content_event}
use Rattle.test_report_events.specs.Event.{Prints}
use Rattle.test_report_events.specs.Line.{EndSays}
use Rattle.test_report_events.specs.Table.{CargoContents}
use Rattle.test_report_events.proofs.text.cargo_contents.Goals as goal

pub returns-in_ok-of_cargo-in-Some : goal.returns-in_ok-of_cargo-in-Some
returns-in_ok-of_cargo-in-Some c =
    let shown = c.args.shown.now in
    let says = subst (CargoSays shown c.without_spaces-text.result.now) (sym c.in_ok-of_cargo-in-Some.ensures) (c.in-Some.ensures shown) in
    subst (λ t. CargoSays shown t (content_event c.in_ok-of_cargo-in-Some.field-0)) c.without_spaces-text.ensures says

pub returns-in_ok-end_contents-in-Some-cargo_end : goal.returns-in_ok-end_contents-in-Some-cargo_end
returns-in_ok-end_contents-in-Some-cargo_end c =
    let end = c.in-Some-cargo_end.ensures in
    let found = c.in_ok-end_contents-in-Some-cargo_end in
    subst (λ before. CargoContents c.args.shown.now c.args.plain.now (Some (before, content_event found.field-0.1))) (sym found.ensures.0) (
      (λ other h. c.in-None.ensures c.args.shown.now other (subst (λ t. CargoSays c.args.shown.now t other) (sym c.without_spaces-text.ensures) h)),
      (end.0, subst (EndSays c.args.plain.now end.0) (sym found.ensures.1) end.3, ap (λ t. Prints t t) end.1),
    )

pub returns-in-None-cargo_end : goal.returns-in-None-cargo_end
returns-in-None-cargo_end c = (
  (λ e h. c.in-None.ensures c.args.shown.now e (subst (λ t. CargoSays c.args.shown.now t e) (sym c.without_spaces-text.ensures) h)),
  c.in-None-cargo_end.ensures,
)
