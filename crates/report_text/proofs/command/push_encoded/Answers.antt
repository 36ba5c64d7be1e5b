use Rattle.std.proofs.Common.{◌∙◌, ◌++◌, ap, append-nil, append_assoc, sym}
use Rattle.std.specs.Str.{chars}
use Rattle.report_text.specs.Command.{encoded, encoded_char}
use Rattle.report_text.proofs.Characters.{first-char, no-chars}
use Rattle.report_text.proofs.command.push_encoded.Goals as goal

pub loop-c-preserved : goal.loop-c-preserved
loop-c-preserved c = λ e.
    let property = c.args.in_property in
    let char = c.in-Some.c in
    let rest = c.next.new.self.rest.now in
    let same = ap chars c.in-Some.ensures.steps.0 ∙ first-char char rest in
    let first = c.push_encoded_char-mark.ensures.text e in
    let all = c.loop-c.invariant first.0 in (
      all.0,
      ap (λ t. t ++ encoded property c.push_encoded_char-mark.result (chars rest)) first.1
          ∙ (append_assoc c.loop-c.text.text (encoded_char property c.loop-c.mark char) (encoded property c.push_encoded_char-mark.result (chars rest))
          ∙ (ap (λ m. c.loop-c.text.text ++ (encoded_char property c.loop-c.mark char ++ encoded property m (chars rest))) c.push_encoded_char-mark.ensures.mark
          ∙ (ap (λ cs. c.loop-c.text.text ++ encoded property c.loop-c.mark cs) (sym same) ∙ all.1))),
    )

pub returns : goal.returns
returns c = λ e.
    let none = no-chars c.loop-c.c-iterator.rest.now c.in-None.ensures.steps.0.0 in
    let all = c.loop-c.invariant e in
    (all.0, sym (append-nil c.loop-c.text.text) ∙ (ap (λ cs. c.loop-c.text.text ++ encoded c.args.in_property c.loop-c.mark cs) (sym none) ∙ all.1))
