use Rattle.std.proofs.Common.{arith}
use Rattle.std.proofs.lemmas.Grind.{common_steps}
use Rattle.run_events_results.proofs.laws.cancel_reason_order.Goals as goal

pub returns-clause-order : goal.returns-clause-order
returns-clause-order c = grind (arith, common_steps)

pub returns-clause-equality : goal.returns-clause-equality
returns-clause-equality c = grind (arith, common_steps)
