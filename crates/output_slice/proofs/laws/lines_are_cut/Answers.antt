use Rattle.output_slice.proofs.DivisionLemmas.{AreLines-lines_of}
use Rattle.output_slice.proofs.laws.lines_are_cut.Goals as goal

pub returns : goal.returns
returns c = AreLines-lines_of
