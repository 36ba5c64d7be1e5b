use Rattle.std.proofs.Common.{arith}
use Rattle.output_slice.proofs.OccursLemmas.{finds-last, quiet-block}
use Rattle.output_slice.proofs.signs.last_sign.Goals as goal

pub returns-in-Some : goal.returns-in-Some
returns-in-Some c =
    let i = c.loop-end.invariant in
    finds-last _ _ _ _ i.1 c.reach.ensures c.saturating_sub-start.result c.in-Some.gap (omega arith) i.0 c.in-Some.ensures

pub loop-end-preserved : goal.loop-end-preserved
loop-end-preserved c = (omega arith, quiet-block _ _ _ _ c.loop-end.invariant.1 c.reach.ensures c.saturating_sub-start.result c.in_default.ensures)

pub returns : goal.returns
returns c = λ k low high. c.loop-end.invariant.1 k (omega arith)
