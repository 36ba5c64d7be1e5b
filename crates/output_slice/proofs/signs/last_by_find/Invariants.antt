use Rattle.output_slice.proofs.Words.{length, ◌-◌, OccursAt}
use Rattle.output_slice.proofs.signs.last_by_find.Given as goal

abbrev pub invariant-loop-gap : goal.invariant-loop-gap
invariant-loop-gap l = OccursAt l.bytes l.sign.text.now l.last

abbrev pub decreases-loop-gap : goal.decreases-loop-gap
decreases-loop-gap l = length l.bytes - l.last
