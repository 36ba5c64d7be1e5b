use Rattle.std.proofs.Common.{rules}
use Rattle.test_report_programs.proofs.program.Program.explains.Goals as goal

pub returns-in-Status : goal.returns-in-Status
returns-in-Status c = search rules
