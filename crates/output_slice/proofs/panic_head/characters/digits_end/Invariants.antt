use Rattle.output_slice.proofs.Words.{◌≡◌, ◌+◌, ◌-◌, ◌≤◌, length, AreDigits}
use Rattle.output_slice.proofs.panic_head.characters.digits_end.Given as goal

abbrev pub invariant-loop-at : goal.invariant-loop-at
invariant-loop-at g l =
    (g.S.ByteSource.bytes l.source ≡ g.S.ByteSource.bytes l.fn.source) × (l.end ≡ length (g.S.ByteSource.bytes l.fn.source))
    × (l.at ≤ l.end) × (l.from ≤ l.at) × (g.S.ByteSource.count l.source + l.from ≡ g.S.ByteSource.count l.fn.source + l.at)
    × AreDigits (g.S.ByteSource.bytes l.fn.source) l.from l.at

abbrev pub decreases-loop-at : goal.decreases-loop-at
decreases-loop-at g l = l.end - l.at
