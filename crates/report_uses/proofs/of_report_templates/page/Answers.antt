use Rattle.std.proofs.Common.{◌≡◌, ◌∙◌, ap, string_bytes, subst, sym}
use Rattle.std.specs.Option.{option_map}
use Rattle.report_templates.specs.Laws.{IsOneDocument}
use Rattle.report_templates.specs.Sound.{page_parts}
use Rattle.template.specs.Template.{parts_text, parts_view, values_view}
use Rattle.report_uses.proofs.of_report_templates.page.Goals as goal

pub returns-in_default-clause-is_some : goal.returns-in_default-clause-is_some
returns-in_default-clause-is_some c =
    let e = ap (option_map (λ v. parts_view v.items)) (sym c.in_default.is) ∙ (c.in_ok-parts.ensures ∙ c.page_is_sound.ensures.parsed) in cc

pub returns-clause-one_document : goal.returns-clause-one_document
returns-clause-one_document c =
    let same-page : parts_view c.in-Some.parts.items ≡ page_parts =
    (let e = ap (option_map (λ v. parts_view v.items)) (sym c.in-Some.is) ∙ (c.in_ok-parts.ensures ∙ c.page_is_sound.ensures.parsed) in cc) in
    let written : string_bytes c.render.new.text ≡ parts_text (parts_view c.in-Some.parts.items) (values_view c.args.values.now) =
    rw (c.new-page.ensures.bytes, c.as_slice.ensures.value) at c.in_ok-render.ensures in
    subst (IsOneDocument page_parts (values_view c.args.values.now))
    (sym (written ∙ ap (λ ps. parts_text ps (values_view c.args.values.now)) same-page))
    (c.page_is_one_document.ensures (values_view c.args.values.now))
