use Rattle.std.proofs.Common.{rules}
use Rattle.run_events_results.proofs.levels.StatusLevel.of_flaky.Goals as goal

pub returns-in-Fail : goal.returns-in-Fail
returns-in-Fail c = search rules
