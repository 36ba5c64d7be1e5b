use Rattle.std.proofs.Common.{◌≡◌, ◌==◌, ◌∙◌, ap, arith, false, length, length-append, sym}
use Rattle.std.proofs.lemmas.Bool.Decides.{nat_tests}
use Rattle.std.proofs.lemmas.Str.{len_utf8_bounds, length-encode}
use Rattle.std.specs.Char.{encode_utf8}
use Rattle.std.specs.Str.{chars}
use Rattle.report_text.specs.Sequence.{parameters_len}
use Rattle.report_text.proofs.Characters.{first-char, no-chars}
use Rattle.report_text.proofs.Styles.{after, after-end, after-more, after-stop}
use Rattle.report_text.proofs.sequence.parameters_len.Goals as goal

pub returns-then-c-eq109-clause-is : goal.returns-then-c-eq109-clause-is
returns-then-c-eq109-clause-is c =
    let rest = c.next.new.self.rest.now in
    let same = ap chars c.in-Some.ensures.steps.0 ∙ first-char c.in-Some.c rest in
    after-end _ c.loop-c.n c.in-Some.c (chars rest) (c.loop-c.invariant.is ∙ ap (λ l. after c.loop-c.n (parameters_len l)) same) c.if-c-eq109.true

pub returns-then-not-is_parameter-clause-is : goal.returns-then-not-is_parameter-clause-is
returns-then-not-is_parameter-clause-is c =
    let rest = c.next.new.self.rest.now in
    let same = ap chars c.in-Some.ensures.steps.0 ∙ first-char c.in-Some.c rest in
    let other : (c.in-Some.c == 109) ≡ false = grind (arith, nat_tests) in
    after-stop _ c.loop-c.n c.in-Some.c (chars rest) (c.loop-c.invariant.is ∙ ap (λ l. after c.loop-c.n (parameters_len l)) same) other
    (sym c.is_parameter.ensures ∙ c.if-not-is_parameter.true)

pub loop-c-preserved : goal.loop-c-preserved
loop-c-preserved c =
    let rest = c.next.new.self.rest.now in
    let same = ap chars c.in-Some.ensures.steps.0 ∙ first-char c.in-Some.c rest in
    let other : (c.in-Some.c == 109) ≡ false = grind (arith, nat_tests) in
    let bytes = ap length c.in-Some.ensures.steps.0 ∙ length-append (encode_utf8 c.in-Some.c) rest in
    let long = length-encode c.in-Some.c in
    let some = (len_utf8_bounds c.in-Some.c).0 in
    record {
      is = after-more _ c.loop-c.n c.in-Some.c (chars rest) (c.loop-c.invariant.is ∙ ap (λ l. after c.loop-c.n (parameters_len l)) same) other
          (sym c.is_parameter.ensures ∙ c.if-not-is_parameter.false);
      within = omega (arith, bytes, long, some);
    }

pub returns-clause-is : goal.returns-clause-is
returns-clause-is c =
    let none = no-chars c.loop-c.rest.rest.now c.in_default.ensures.steps.0.0 in
    sym (c.loop-c.invariant.is ∙ ap (λ l. after c.loop-c.n (parameters_len l)) none)
