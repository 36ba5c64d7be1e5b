use Rattle.output_slice.proofs.OccursLemmas.{finds-first}
use Rattle.output_slice.proofs.signs.first_sign.Goals as goal

pub returns : goal.returns
returns c = finds-first c.args.bytes.now c.args.sign.text.now c.args.end c.reach.result c.requires c.reach.ensures c.first_match.result c.first_match.ensures
