use Rattle.std.proofs.Common.{rules}
use Rattle.run_events_stats.proofs.stats.RunStats.raise_for_script.Goals as goal

pub returns-in-Pass : goal.returns-in-Pass
returns-in-Pass c = search rules
