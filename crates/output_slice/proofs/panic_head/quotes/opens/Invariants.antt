use Rattle.output_slice.proofs.Words.{◌≡◌, ◌+◌, ◌<◌, ◌≤◌, ℕ, get_or, codes, IsLineStart}
use Rattle.output_slice.proofs.panic_head.quotes.opens.Given as goal

abbrev pub invariant-loop-i : goal.invariant-loop-i
invariant-loop-i g l =
    (g.S.ByteSource.bytes l.source ≡ g.S.ByteSource.bytes l.fn.source)
    × (g.S.ByteSource.count l.source ≤ g.S.ByteSource.count l.fn.source + (1 + l.i))
    × (g.S.ByteSource.count l.fn.source ≤ g.S.ByteSource.count l.source) × IsLineStart (g.S.ByteSource.bytes l.fn.source) l.start
    × ((k : ℕ) → k < l.i → get_or (g.S.ByteSource.bytes l.fn.source) (l.start + k) 0 ≡ get_or (codes "thread ") k 0)
