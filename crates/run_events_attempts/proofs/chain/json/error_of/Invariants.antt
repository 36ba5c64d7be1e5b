use Rattle.std.proofs.Common.{◌≡◌, map, take, string_bytes}
use Rattle.run_events_attempts.specs.ChainObject.{texts_of}
use Rattle.run_events_attempts.proofs.chain.json.error_of.Given as goal

-- the texts of the causes so far
abbrev pub invariant-loop-cause : goal.invariant-loop-cause
invariant-loop-cause l = map string_bytes l.texts.items ≡ texts_of (take l.cause-index l.causes)
