use Rattle.test_report_laws.proofs.Announced.{announced-counted}
use Rattle.test_report_laws.proofs.InOrder.{success-in-order}
use Rattle.test_report_laws.proofs.run.success_is_in_order.Goals as goal

pub returns-clause-announced : goal.returns-clause-announced
returns-clause-announced c = announced-counted

pub returns-clause-in_order : goal.returns-clause-in_order
returns-clause-in_order c = success-in-order
