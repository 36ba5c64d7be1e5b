use Rattle.std.proofs.Common.{rules}
use Rattle.run_events_stats.proofs.stats.RunStats.count_success.Goals as goal

pub returns-then-eq : goal.returns-then-eq
returns-then-eq c = search rules
