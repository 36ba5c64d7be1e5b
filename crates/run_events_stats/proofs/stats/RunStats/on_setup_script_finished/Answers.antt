use Rattle.std.proofs.Common.{rules}
use Rattle.run_events_stats.proofs.stats.RunStats.on_setup_script_finished.Goals as goal

pub returns : goal.returns
returns c = search rules
