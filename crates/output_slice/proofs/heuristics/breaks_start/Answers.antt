use Rattle.std.proofs.Common.{rules}
use Rattle.output_slice.proofs.heuristics.breaks_start.Goals as goal

pub loop-at-preserved : goal.loop-at-preserved
loop-at-preserved c = search rules
