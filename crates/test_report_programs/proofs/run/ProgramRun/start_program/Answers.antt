use Rattle.std.proofs.Common.{rules}
use Rattle.test_report_programs.proofs.run.ProgramRun.start_program.Goals as goal

pub returns : goal.returns
returns c = search rules
