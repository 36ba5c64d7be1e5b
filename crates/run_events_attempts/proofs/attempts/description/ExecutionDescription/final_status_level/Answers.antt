use Rattle.std.proofs.Common.{rules}
use Rattle.run_events_attempts.proofs.attempts.description.ExecutionDescription.final_status_level.Goals as goal

pub returns-in-Success : goal.returns-in-Success
returns-in-Success g c = search rules
