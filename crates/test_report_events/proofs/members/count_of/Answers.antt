use Rattle.std.proofs.Common.{rules}
use Rattle.test_report_events.proofs.members.count_of.Goals as goal

pub returns-in_default : goal.returns-in_default
returns-in_default c = search rules
