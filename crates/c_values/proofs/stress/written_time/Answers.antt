use Rattle.std.proofs.Common.{rules}
use Rattle.c_values.proofs.stress.written_time.Goals as goal

pub returns-clause-value : goal.returns-clause-value
returns-clause-value c = search rules

pub returns-clause-no_more : goal.returns-clause-no_more
returns-clause-no_more c = search rules
