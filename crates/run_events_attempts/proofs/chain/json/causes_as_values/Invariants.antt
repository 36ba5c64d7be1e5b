use Rattle.std.proofs.Common.{◌≡◌, ◌++◌, map}
use Rattle.serde_json.specs.Data.{string}
use Rattle.serde_json.specs.View.{view}
use Rattle.run_events_attempts.specs.ErrorChain.{cause_chains}
use Rattle.run_events_attempts.proofs.chain.json.causes_as_values.Given as goal

-- the causes written so far, and then those that are left
abbrev pub invariant-loop-cause : goal.invariant-loop-cause
invariant-loop-cause l =
    map view l.values.items ++ map (λ e. string e.message) (cause_chains l.cause-iterator) ≡ map string l.error.causes
