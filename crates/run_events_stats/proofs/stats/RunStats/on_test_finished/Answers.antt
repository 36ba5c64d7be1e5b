use Rattle.std.proofs.Common.{rules}
use Rattle.run_events_stats.proofs.stats.RunStats.on_test_finished.Goals as goal

pub returns : goal.returns
returns c = search rules
