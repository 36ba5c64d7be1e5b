use Rattle.std.proofs.Common.{rules}
use Rattle.run_events_attempts.proofs.chain.SerializableError.from_message_and_causes.Goals as goal

pub link-init : goal.link-init
link-init c = search rules
