use Rattle.std.proofs.Common.{rules}
use Rattle.run_events_attempts.proofs.chain.SerializableErrorPartialEq.eq.Goals as goal

pub returns-in_default : goal.returns-in_default
returns-in_default c = search rules
