use Rattle.std.proofs.Common.{rules}
use Rattle.run_events_stats.proofs.stats.RunStats.failed_setup_script_count.Goals as goal

pub returns : goal.returns
returns c = search rules
