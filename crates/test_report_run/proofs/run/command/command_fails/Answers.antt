use Rattle.std.proofs.Common.{rules}
use Rattle.test_report_run.proofs.run.command.command_fails.Goals as goal

pub returns-then-code-ne0 : goal.returns-then-code-ne0
returns-then-code-ne0 c = search rules
