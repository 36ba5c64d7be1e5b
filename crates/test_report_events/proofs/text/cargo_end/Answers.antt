use Rattle.test_report_events.proofs.Endings.{end_or_failure}
use Rattle.test_report_events.proofs.text.cargo_end.Goals as goal

pub returns-in-None : goal.returns-in-None
returns-in-None c = end_or_failure c.args.plain.now c.failure_end.result c.in-None.ensures c.failure_end.ensures
