use Rattle.std.proofs.Common.{◌≡◌, ◌+◌, ◌<◌, ℕ, get_or}
use Rattle.output_slice.proofs.panic_head.ends.after_text.Given as goal

abbrev pub invariant-loop-i : goal.invariant-loop-i
invariant-loop-i g l =
    (g.S.ByteSource.bytes l.source ≡ g.S.ByteSource.bytes l.fn.source)
    × (g.S.ByteSource.count l.source ≡ g.S.ByteSource.count l.fn.source + l.i)
    × ((k : ℕ) → k < l.i → get_or (g.S.ByteSource.bytes l.fn.source) (l.at + k) 0 ≡ get_or l.text k 0)
