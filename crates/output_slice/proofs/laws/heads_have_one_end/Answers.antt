use Rattle.output_slice.proofs.HeadLemmas.{head-same}
use Rattle.output_slice.proofs.laws.heads_have_one_end.Goals as goal

pub returns : goal.returns
returns c = head-same
