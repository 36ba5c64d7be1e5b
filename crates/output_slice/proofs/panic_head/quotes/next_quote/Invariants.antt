use Rattle.std.proofs.Common.{◌≡◌, ◌+◌, ◌<◌, ◌≤◌, ℕ, get_or, length}
use Rattle.output_slice.proofs.panic_head.quotes.next_quote.Given as goal

abbrev pub invariant-loop-at : goal.invariant-loop-at
invariant-loop-at g l =
    (g.S.ByteSource.bytes l.source ≡ g.S.ByteSource.bytes l.fn.source) × (l.end ≡ length (g.S.ByteSource.bytes l.fn.source))
    × (g.S.ByteSource.count l.source + l.from ≡ g.S.ByteSource.count l.fn.source + l.at)
    × ((k : ℕ) → l.from ≤ k → k < l.at → get_or (g.S.ByteSource.bytes l.fn.source) k 0 ≡ 39 → ⊥)
