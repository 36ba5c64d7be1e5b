use Rattle.std.proofs.Common.{◌<◌, ◌∙◌, ap, arith, sym}
use Rattle.std.specs.Str.{chars}
use Rattle.report_text.specs.Sequence.{parameters_len, style_len}
use Rattle.report_text.proofs.Characters.{first-char}
use Rattle.report_text.proofs.Styles.{style-found, style-none}
use Rattle.report_text.proofs.sequence.style_len.Goals as goal

pub returns-then-n-eq0 : goal.returns-then-n-eq0
returns-then-n-eq0 c =
    let rest = c.next.new.self.rest.now in
    let same = ap chars (sym c.chars-rest.ensures.rest ∙ c.in-Some.ensures.steps.0) ∙ first-char c.in-Some.c rest in
    style-none c.in-Some.c c.parameters_len-n.result (chars rest) (c.parameters_len-n.ensures.is ∙ ap (λ t. parameters_len (chars t)) c.as_str.ensures)
    c.if-n-eq0.true
    ∙ ap style_len (sym same)

pub returns-else-n-eq0 : goal.returns-else-n-eq0
returns-else-n-eq0 c =
    let rest = c.next.new.self.rest.now in
    let same = ap chars (sym c.chars-rest.ensures.rest ∙ c.in-Some.ensures.steps.0) ∙ first-char c.in-Some.c rest in
    let some : 0 < c.parameters_len-n.result = omega arith in
    style-found c.in-Some.c c.parameters_len-n.result (chars rest) c.if-c-ne91.false (c.parameters_len-n.ensures.is ∙ ap (λ t. parameters_len (chars t))
    c.as_str.ensures) some
    ∙ ap style_len (sym same)
