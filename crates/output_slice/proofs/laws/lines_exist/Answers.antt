use Rattle.bstr.specs.Text.{lines_of}
use Rattle.output_slice.proofs.DivisionLemmas.{AreLines-lines_of, AreLines-same}
use Rattle.output_slice.proofs.laws.lines_exist.Goals as goal

pub returns : goal.returns
returns c = λ b. (lines_of b, AreLines-lines_of b, AreLines-same b)
