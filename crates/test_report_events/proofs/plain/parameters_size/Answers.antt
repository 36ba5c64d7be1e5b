use Rattle.std.proofs.Common.{◌∙◌, sym}
use Rattle.test_report_events.proofs.Escapes.{parameters_before, parameters_differ, parameters_none}
use Rattle.test_report_events.proofs.plain.parameters_size.Goals as goal

pub returns-then-is_final : goal.returns-then-is_final
returns-then-is_final c =
    let h = parameters_before c.args.text.now c.in-Some.end c.in-Some.ensures in (h.0, h.1, sym c.is_final.ensures ∙ c.if-is_final.true)

pub returns-else-is_final : goal.returns-else-is_final
returns-else-is_final c =
    parameters_differ c.args.text.now c.in-Some.end c.in-Some.ensures (sym c.is_final.ensures ∙ c.if-is_final.false)

pub returns-in-None : goal.returns-in-None
returns-in-None c = parameters_none c.args.text.now c.in-None.ensures
