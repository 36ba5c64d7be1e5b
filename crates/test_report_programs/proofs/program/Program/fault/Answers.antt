use Rattle.std.proofs.Common.{rules}
use Rattle.test_report_programs.proofs.program.Program.fault.Goals as goal

pub returns-then-self : goal.returns-then-self
returns-then-self c = search rules

pub returns-then-is_zero : goal.returns-then-is_zero
returns-then-is_zero c = search rules
