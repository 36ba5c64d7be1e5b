use Rattle.output_slice.proofs.Words.{arith, len_utf8_bounds, length-encode}
use Rattle.output_slice.proofs.CharLemmas.{char-same, digits-more}
use Rattle.output_slice.proofs.panic_head.characters.digits_end.Goals as goal

pub loop-at-preserved : goal.loop-at-preserved
loop-at-preserved g c =
    let v = rw c.loop-at.invariant.0 at c.in-Some.ensures.value in
    let i = c.loop-at.invariant in
    let more = digits-more _ _ _ _ _ _ i.5 v.0 (c.is_digit.ensures.0 c.if-not-is_digit.false) v.1 in
    grind arith

pub returns-then-not-is_digit-clause-run : goal.returns-then-not-is_digit-clause-run
returns-then-not-is_digit-clause-run g c =
    let v = rw c.loop-at.invariant.0 at c.in-Some.ensures.value in
    record { digits = c.loop-at.invariant.5; stops = λ x h d. let same = char-same _ _ _ _ x c.in-Some.c h v.0 in grind arith }

pub returns-clause-run : goal.returns-clause-run
returns-clause-run g c =
    record { digits = c.loop-at.invariant.5; stops = λ x h d. let len = length-encode x in let some = len_utf8_bounds x in absurd (omega (arith, h.ends)) }
