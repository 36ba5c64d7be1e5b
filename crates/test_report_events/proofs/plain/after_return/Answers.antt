use Rattle.std.proofs.Common.{◌∙◌, ◌+◌}
use Rattle.std.proofs.lemmas.List.{take_rest}
use Rattle.test_report_events.proofs.Escapes.{after_byte, after_no_byte}
use Rattle.test_report_events.proofs.plain.after_return.Goals as goal

pub returns-in-Some : goal.returns-in-Some
returns-in-Some c =
    let text = c.args.text.now in
    take_rest text (c.in-Some.at + 1) ∙ after_byte text c.in-Some.at c.in-Some.ensures

pub returns-in-None : goal.returns-in-None
returns-in-None c = after_no_byte c.args.text.now c.in-None.ensures
