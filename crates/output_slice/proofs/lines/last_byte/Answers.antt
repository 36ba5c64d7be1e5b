use Rattle.output_slice.proofs.OccursLemmas.{last-in-front}
use Rattle.output_slice.proofs.lines.last_byte.Goals as goal

pub returns : goal.returns
returns c = last-in-front c.args.bytes.now c.args.byte c.args.end c.requires c.rfind_byte.result c.rfind_byte.ensures
