use Rattle.std.proofs.Common.{◌∙◌}
use Rattle.std.proofs.lemmas.Result.{IfOk-weaker}
use Rattle.template.proofs.Parsing.{close_other, close_same, sections_more}
use Rattle.template.specs.Parse.{parsed_view, section_view}
use Rattle.template.proofs.parse.Parsed.close.Goals as goal

pub returns-then-ne : goal.returns-then-ne
returns-then-ne c =
    let sections = sections_more _ _ c.in-Some.section c.in-Some.ensures.items in
    close_other (parsed_view c.args.self) (section_view c.in-Some.section) _ _ c.args.name.now _ _ sections c.as_str.ensures.value c.ne.ensures c.if-ne.true

pub returns-else-ne : goal.returns-else-ne
returns-else-ne c =
    let sections = sections_more _ _ c.in-Some.section c.in-Some.ensures.items in
    let same = close_same (parsed_view c.args.self) (section_view c.in-Some.section) _ _ c.args.name.now _ _ sections c.as_str.ensures.value c.ne.ensures _
    c.if-ne.false c.section_part-part.ensures in
    IfOk-weaker c.after_part.result _ _ (λ p h. h ∙ same) c.after_part.ensures
