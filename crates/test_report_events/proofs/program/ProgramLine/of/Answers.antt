use Rattle.std.proofs.Common.{rules}
use Rattle.test_report_events.proofs.program.ProgramLine.of.Goals as goal

pub returns-in-Some-command-Some : goal.returns-in-Some-command-Some
returns-in-Some-command-Some c = search rules
