use Rattle.std.proofs.Common.{arith}
use Rattle.std.proofs.lemmas.Grind.{common_steps}
use Rattle.output_slice.proofs.subslice.ByteSubslice.capped.Goals as goal

pub returns : goal.returns
returns c = grind (arith, common_steps)
