use Rattle.std.proofs.Common.{rules}
use Rattle.run_events_stats.proofs.outcome.finished.StressRunStats.summarize_final.Goals as goal

pub returns-then-self-gt0 : goal.returns-then-self-gt0
returns-then-self-gt0 c = search rules
