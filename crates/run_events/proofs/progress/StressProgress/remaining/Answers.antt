use Rattle.std.proofs.Common.{rules}
use Rattle.run_events.proofs.progress.StressProgress.remaining.Goals as goal

pub returns-in-Time : goal.returns-in-Time
returns-in-Time c = search rules
