use Rattle.std.proofs.Common.{rules}
use Rattle.run_events_attempts.proofs.attempts.description.ExecutionDescription.status_level.Goals as goal

pub returns-in-Flaky : goal.returns-in-Flaky
returns-in-Flaky g c = search rules
