use Rattle.output_slice.proofs.Words.{ℕ, ◌+◌, ◌≤◌, length, OccursAt}
use Rattle.output_slice.proofs.signs.last_by_rare_byte.Given as goal

abbrev pub invariant-loop-at : goal.invariant-loop-at
invariant-loop-at l = (l.misses + l.end ≤ length l.bytes) × ((k : ℕ) → l.end ≤ k + l.sign.rare → ¬ OccursAt l.bytes l.sign.text.now k)

abbrev pub decreases-loop-at : goal.decreases-loop-at
decreases-loop-at l = l.end
