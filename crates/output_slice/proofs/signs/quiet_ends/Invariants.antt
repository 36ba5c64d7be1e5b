use Rattle.output_slice.proofs.Words.{max, AreQuiet}
use Rattle.output_slice.proofs.signs.quiet_ends.Given as goal

abbrev pub invariant-loop-stderr : goal.invariant-loop-stderr
invariant-loop-stderr l = AreQuiet l.stdout l.stderr l.ends.stdout l.ends.stderr

abbrev pub decreases-loop-stderr : goal.decreases-loop-stderr
decreases-loop-stderr l = max l.ends.stdout l.ends.stderr
