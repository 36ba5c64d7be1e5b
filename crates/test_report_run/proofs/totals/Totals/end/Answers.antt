use Rattle.std.proofs.Common.{rules}
use Rattle.test_report_run.proofs.totals.Totals.end.Goals as goal

pub returns : goal.returns
returns c = search rules
