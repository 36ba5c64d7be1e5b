use Rattle.std.proofs.Common.{arith}
use Rattle.test_report_events.proofs.Times.{time_is}
use Rattle.test_report_events.proofs.members.Members.time_in.Goals as goal

pub returns-then-is_some_and : goal.returns-then-is_some_and
returns-then-is_some_and c = grind (arith, time_is)
