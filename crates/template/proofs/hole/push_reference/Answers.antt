use Rattle.std.proofs.Common.{rules}
use Rattle.template.proofs.hole.push_reference.Goals as goal

pub returns-in-34 : goal.returns-in-34
returns-in-34 c = search rules
