use Rattle.std.proofs.Common.{rules}
use Rattle.run_events_attempts.proofs.attempts.RetryData.is_last_attempt.Goals as goal

pub returns : goal.returns
returns c = search rules
