use Rattle.std.proofs.Common.{rules}
use Rattle.test_report_run.proofs.run.TestRun.on_cancelled.Goals as goal

pub returns : goal.returns
returns c = search rules
