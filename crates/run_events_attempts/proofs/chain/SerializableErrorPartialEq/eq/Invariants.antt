use Rattle.std.proofs.Common.{◌≡◌, length}
use Rattle.std.specs.Str.{bytes_eq}
use Rattle.std.specs.Cmp.Lexicographic.{pointwise}
use Rattle.run_events_attempts.specs.ErrorChain.{texts}
use Rattle.run_events_attempts.proofs.chain.SerializableErrorPartialEq.eq.Given as goal

-- the parts compared so far are equal, so the rest decides
abbrev pub invariant-compare : goal.invariant-compare
invariant-compare l = pointwise bytes_eq (texts l.initial.left) (texts l.initial.right) ≡ pointwise bytes_eq (texts l.left) (texts l.right)

abbrev pub decreases-compare : goal.decreases-compare
decreases-compare l = length l.left.causes
