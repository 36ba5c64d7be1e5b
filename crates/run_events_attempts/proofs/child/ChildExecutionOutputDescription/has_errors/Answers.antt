use Rattle.std.proofs.Common.{rules}
use Rattle.run_events_attempts.proofs.child.ChildExecutionOutputDescription.has_errors.Goals as goal

pub returns-else-is_some : goal.returns-else-is_some
returns-else-is_some g c = search rules
