use Rattle.std.proofs.Common.{◌≡◌, ◌++◌, [], map, string_bytes, vec_len}
use Rattle.std.specs.Option.{option_map_or}
use Rattle.run_events_attempts.specs.ErrorChain.{texts}
use Rattle.run_events_attempts.proofs.chain.SerializableError.from_message_and_causes.Given as goal

-- the causes are those that are not linked yet, and then those that are linked
abbrev pub invariant-link : goal.invariant-link
invariant-link l = map string_bytes l.fn.causes.items ≡ map string_bytes l.causes.items ++ option_map_or (λ b. texts b.value) l.source []

abbrev pub decreases-link : goal.decreases-link
decreases-link l = vec_len l.causes
