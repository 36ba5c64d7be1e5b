use Rattle.std.proofs.Common.{rules}
use Rattle.run_events_results.proofs.levels.output.is_stopped.Goals as goal

pub returns-then-eq : goal.returns-then-eq
returns-then-eq c = search rules
