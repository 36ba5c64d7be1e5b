use Rattle.std.proofs.Common.{◌∙◌, Some, codes, sym}
use Rattle.std.proofs.lemmas.Bool.Decides.{Decides-eqb}
use Rattle.std.proofs.lemmas.Slice.Eq.{strip_prefix_is}
use Rattle.test_report_events.proofs.FoundMembers.{follows}
use Rattle.test_report_events.proofs.damage.begins_value.Goals as goal

pub returns-in-Some : goal.returns-in-Some
returns-in-Some c =
    let after = c.in-Some.after in
    let colon = strip_prefix_is Decides-eqb c.without_spaces.result.now (codes ":") (Some after) c.in-Some.ensures.cases in
    follows c.args.text.now c.args.value.now after.now c.starts_with.result (sym c.without_spaces.ensures ∙ colon)
    (rw (sym c.without_spaces-in-Some.ensures) c.starts_with.ensures.value)
