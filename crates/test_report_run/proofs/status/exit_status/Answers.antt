use Rattle.std.proofs.Common.{rules}
use Rattle.test_report_run.proofs.status.exit_status.Goals as goal

pub returns-clause-zero : goal.returns-clause-zero
returns-clause-zero c = search rules
