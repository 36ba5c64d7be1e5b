use Rattle.template.proofs.Marking.{no_value_is_mark}
use Rattle.template.proofs.laws.no_value_is_mark.Goals as goal

pub returns : goal.returns
returns c = no_value_is_mark
