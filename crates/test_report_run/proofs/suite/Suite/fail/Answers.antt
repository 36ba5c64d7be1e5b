use Rattle.std.proofs.Common.{rules}
use Rattle.test_report_run.proofs.suite.Suite.fail.Goals as goal

pub returns-clause-counts : goal.returns-clause-counts
returns-clause-counts c = search rules
