use Rattle.output_slice.proofs.Words.{◌+◌, arith}
use Rattle.output_slice.proofs.OccursLemmas.{finds-last-front, is-last, none-from, none-from-miss}
use Rattle.output_slice.proofs.signs.last_by_rare_byte.Goals as goal

pub returns-in-Some-sign_around : goal.returns-in-Some-sign_around
returns-in-Some-sign_around c =
    let there = c.in-Some-sign_around.ensures in
    let none = none-from _ _ _ c.args.sign.within (c.in-Some.at + 1) c.loop-at.end c.in-Some.ensures.0.after c.loop-at.invariant.1 in
    is-last _ 0 _ c.in-Some-sign_around.start (omega arith) (omega (arith, there.1.fits)) (λ k low up. none k (omega arith)) there.1

pub overflow_add-misses : goal.overflow_add-misses
overflow_add-misses c = omega (arith, c.in-Some.ensures.0.high)

pub returns-then-are_too_many : goal.returns-then-are_too_many
returns-then-are_too_many c =
    let none = none-from-miss _ _ _ c.args.sign.within c.in-Some.at c.loop-at.end c.in-Some.ensures.0.after c.loop-at.invariant.1
    c.in_default-sign_around.ensures in
    finds-last-front _ _ c.in-Some.at _ (λ k low. none k (omega arith)) c.reach.ensures c.last_by_find.result c.last_by_find.ensures

pub loop-at-preserved : goal.loop-at-preserved
loop-at-preserved c = (
  omega (arith, c.in-Some.ensures.0.high),
  none-from-miss _ _ _ c.args.sign.within c.in-Some.at c.loop-at.end
      c.in-Some.ensures.0.after c.loop-at.invariant.1 c.in_default-sign_around.ensures,
)

pub returns : goal.returns
returns c = λ k low up. none-from _ _ _ c.args.sign.within 0 c.loop-at.end c.in_default.ensures c.loop-at.invariant.1 k (omega arith)
