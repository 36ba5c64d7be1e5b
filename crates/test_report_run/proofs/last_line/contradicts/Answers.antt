use Rattle.std.proofs.Common.{rules}
use Rattle.test_report_run.proofs.last_line.contradicts.Goals as goal

pub returns-else-is_other : goal.returns-else-is_other
returns-else-is_other c = search rules
