use Rattle.output_slice.proofs.Words.{length, Option, HeadSpan, IsLastTaken}
use Rattle.output_slice.proofs.last_head.last_head_before.Given as goal

-- the last head of the rest is the last of all
abbrev pub invariant-loop-at : goal.invariant-loop-at
invariant-loop-at l = (found : Option HeadSpan) → IsLastTaken l.rest found → IsLastTaken l.fn.bytes found

abbrev pub decreases-loop-at : goal.decreases-loop-at
decreases-loop-at l = length l.rest
