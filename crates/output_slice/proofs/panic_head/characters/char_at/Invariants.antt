use Rattle.output_slice.proofs.Words.{◌≡◌, ◌+◌, ◌<◌, ℕ, get_or, length, IsCharAt}
use Rattle.output_slice.proofs.panic_head.characters.char_at.Given as goal

abbrev pub invariant-loop-i : goal.invariant-loop-i
invariant-loop-i g l =
    (g.S.ByteSource.bytes l.source ≡ g.S.ByteSource.bytes l.fn.source)
    × (g.S.ByteSource.count l.source ≡ g.S.ByteSource.count l.fn.source + l.i) × (length l.buffer ≡ 4)
    × ((c : ℕ) → IsCharAt (g.S.ByteSource.bytes l.fn.source) l.at (l.at + l.i) c → ⊥)
    × ((k : ℕ) → k < l.i → get_or l.buffer k 0 ≡ get_or (g.S.ByteSource.bytes l.fn.source) (l.at + k) 0)
