use Rattle.std.proofs.Common.{rules}
use Rattle.run_events_stats.proofs.stats.RunStats.failed_counts_fit.Goals as goal

pub returns-then-is_some : goal.returns-then-is_some
returns-then-is_some c = search rules
