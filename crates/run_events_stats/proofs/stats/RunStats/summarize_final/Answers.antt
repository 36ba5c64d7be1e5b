use Rattle.std.proofs.Common.{rules}
use Rattle.run_events_stats.proofs.stats.RunStats.summarize_final.Goals as goal

pub returns-else-self-eq0 : goal.returns-else-self-eq0
returns-else-self-eq0 c = search rules
