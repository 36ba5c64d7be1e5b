use Rattle.output_slice.proofs.Words.{◌≤◌, AreBreaks}
use Rattle.output_slice.proofs.heuristics.breaks_start.Given as goal

abbrev pub invariant-loop-at : goal.invariant-loop-at
invariant-loop-at l = (l.at ≤ l.start) × AreBreaks l.stderr l.at l.start

abbrev pub decreases-loop-at : goal.decreases-loop-at
decreases-loop-at l = l.at
