use Rattle.output_slice.proofs.Words.{◌≤◌, length, IsQuietFrom}
use Rattle.output_slice.proofs.signs.last_sign.Given as goal

abbrev pub invariant-loop-end : goal.invariant-loop-end
invariant-loop-end l = (l.end ≤ length l.bytes) × IsQuietFrom l.bytes l.sign.text.now l.end

abbrev pub decreases-loop-end : goal.decreases-loop-end
decreases-loop-end l = l.end
