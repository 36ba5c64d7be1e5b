use Rattle.std.proofs.Common.{rules}
use Rattle.test_report_events.specs.Table.{bench_result}
use Rattle.test_report_events.proofs.members.Members.bench_result.Goals as goal

pub returns-in-Some-failed : goal.returns-in-Some-failed
unfolding bench_result
returns-in-Some-failed c = search rules
