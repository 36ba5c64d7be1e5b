use Rattle.std.proofs.Common.{rules}
use Rattle.c_values.proofs.codes.described.Goals as goal

pub returns-in-7 : goal.returns-in-7
returns-in-7 c = search rules
