use Rattle.std.proofs.Common.{arith}
use Rattle.std.proofs.lemmas.Grind.{common_steps}
use Rattle.run_events_stats.proofs.outcome.run_outcome.RunOutcome.combine.Goals as goal

pub returns-clause-associative : goal.returns-clause-associative
returns-clause-associative c = grind (arith, common_steps)
