use Rattle.output_slice.proofs.Words.{ℕ, ◌+◌, ◌-◌, ◌<◌, ◌≤◌, length, OccursAt}
use Rattle.output_slice.proofs.signs.first_by_rare_byte.Given as goal

abbrev pub invariant-loop-at : goal.invariant-loop-at
invariant-loop-at l =
    (l.from ≤ length l.bytes) × (l.misses ≤ l.from) × ((k : ℕ) → k + l.sign.rare < l.from → ¬ OccursAt l.bytes l.sign.text.now k)

abbrev pub decreases-loop-at : goal.decreases-loop-at
decreases-loop-at l = length l.bytes - l.from
