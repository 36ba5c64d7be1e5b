use Rattle.output_slice.proofs.CutLemmas.{divides}
use Rattle.output_slice.proofs.laws.taken_heads_divide.Goals as goal

pub returns : goal.returns
returns c = divides
