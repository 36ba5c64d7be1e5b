use Rattle.std.proofs.Common.{length}
use Rattle.run_events_attempts.proofs.chain.SerializableError.drop.Given as goal

-- the number of causes that are left to drop
abbrev pub decreases-loop-cause : goal.decreases-loop-cause
decreases-loop-cause l = length l.self.causes
