use Rattle.std.proofs.Common.{rules}
use Rattle.run_events_stats.proofs.stats.RunStats.raise_for_test.Goals as goal

pub returns-in-Timeout-Fail : goal.returns-in-Timeout-Fail
returns-in-Timeout-Fail c = search rules
