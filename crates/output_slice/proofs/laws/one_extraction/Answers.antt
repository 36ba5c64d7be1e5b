use Rattle.output_slice.proofs.SameLemmas.{IsExtract-same}
use Rattle.output_slice.proofs.laws.one_extraction.Goals as goal

pub returns : goal.returns
returns c = IsExtract-same
