use Rattle.std.proofs.Common.{arith}
use Rattle.output_slice.proofs.CutLemmas.{crossed-more}
use Rattle.output_slice.proofs.last_head.cut_before.Goals as goal

pub loop-start-preserved : goal.loop-start-preserved
loop-start-preserved c =
    let crosses = c.in-Some.ensures in
    (omega arith, crosses.opening.0, crossed-more _ c.in-Some.start c.loop-start.cut c.args.at crosses c.loop-start.invariant.2)
