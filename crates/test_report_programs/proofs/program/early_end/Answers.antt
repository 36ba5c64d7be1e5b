use Rattle.std.proofs.Common.{rules}
use Rattle.test_report_programs.proofs.program.early_end.Goals as goal

pub returns : goal.returns
returns c = search rules
