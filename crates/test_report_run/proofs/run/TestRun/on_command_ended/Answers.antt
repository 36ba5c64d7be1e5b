use Rattle.std.proofs.Common.{rules}
use Rattle.test_report_run.proofs.run.TestRun.on_command_ended.Goals as goal

pub returns-in-Some : goal.returns-in-Some
returns-in-Some c = search rules
