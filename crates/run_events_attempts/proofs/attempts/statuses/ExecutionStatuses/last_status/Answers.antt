use Rattle.std.proofs.Common.{rules}
use Rattle.run_events_attempts.proofs.attempts.statuses.ExecutionStatuses.last_status.Goals as goal

pub returns : goal.returns
returns g c = search rules
