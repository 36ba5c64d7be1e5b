use Rattle.std.proofs.Common.{arith, rules}
use Rattle.std.proofs.lemmas.Grind.{common_steps}
use Rattle.output_slice.proofs.subslice.TestOutputErrorSlice.heuristic_extract_capped.Goals as goal

pub returns-clause-value : goal.returns-clause-value
returns-clause-value c = search rules

pub returns-clause-only : goal.returns-clause-only
returns-clause-only c = search rules

pub returns-clause-part : goal.returns-clause-part
returns-clause-part c = grind (arith, common_steps)
