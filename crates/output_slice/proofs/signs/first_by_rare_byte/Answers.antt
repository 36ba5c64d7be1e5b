use Rattle.output_slice.proofs.Words.{length, arith}
use Rattle.output_slice.proofs.OccursLemmas.{finds-first-rest, is-first, none-rest, none-until, none-until-miss}
use Rattle.output_slice.proofs.signs.first_by_rare_byte.Goals as goal

pub returns-in-Some-sign_around : goal.returns-in-Some-sign_around
returns-in-Some-sign_around c =
    let there = c.in-Some-sign_around.ensures in
    let none = none-until _ _ _ c.args.sign.within c.loop-at.from c.in-Some.at c.in-Some.ensures.0.before c.loop-at.invariant.2 in
    is-first _ 0 _ c.in-Some-sign_around.start (omega arith) (omega (arith, there.1.fits)) (λ k low up. none k (omega arith)) there.1

pub overflow_add-misses : goal.overflow_add-misses
overflow_add-misses c = omega (arith, c.in-Some.ensures.0.high)

pub returns-in_err-gap : goal.returns-in_err-gap
returns-in_err-gap c =
    let none = none-until-miss _ _ _ c.args.sign.within c.loop-at.from c.in-Some.at c.in-Some.ensures.0.before c.loop-at.invariant.2
    c.in_default-sign_around.ensures in
    rw c.from_residual.ensures (none-rest _ _ c.saturating_sub-rest.result (λ k up. none k (omega (arith, c.saturating_sub-rest.ensures)))
    c.in_err-gap.ensures)

pub returns-then-are_too_many : goal.returns-then-are_too_many
returns-then-are_too_many c =
    let none = none-until-miss _ _ _ c.args.sign.within c.loop-at.from c.in-Some.at c.in-Some.ensures.0.before c.loop-at.invariant.2
    c.in_default-sign_around.ensures in
    finds-first-rest _ _ c.saturating_sub-rest.result (λ k up. none k (omega (arith, c.saturating_sub-rest.ensures))) c.in_ok-gap.gap
    (omega (arith, c.saturating_sub-rest.ensures, c.in-Some.ensures.0.high)) c.in_ok-gap.ensures

pub loop-at-preserved : goal.loop-at-preserved
loop-at-preserved c = (
  omega (arith, c.in-Some.ensures.0.high),
  omega (arith, c.in-Some.ensures.0.low),
  none-until-miss _ _ _ c.args.sign.within
      c.loop-at.from c.in-Some.at c.in-Some.ensures.0.before c.loop-at.invariant.2 c.in_default-sign_around.ensures,
)

pub returns : goal.returns
returns c = λ k low up h.
    none-until _ _ _ c.args.sign.within c.loop-at.from (length c.args.bytes.now) c.in_default.ensures c.loop-at.invariant.2 k
    (omega (arith, h.fits, c.args.sign.within)) h
