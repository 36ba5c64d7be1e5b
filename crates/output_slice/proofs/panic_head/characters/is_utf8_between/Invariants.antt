use Rattle.output_slice.proofs.Words.{◌≡◌, ◌+◌, ◌-◌, ◌≤◌, ◌↔◌, IsUtf8, part}
use Rattle.output_slice.proofs.panic_head.characters.is_utf8_between.Given as goal

abbrev pub invariant-loop-at : goal.invariant-loop-at
invariant-loop-at g l =
    (g.S.ByteSource.bytes l.source ≡ g.S.ByteSource.bytes l.fn.source) × (l.from ≤ l.at) × (l.at ≤ l.to)
    × (g.S.ByteSource.count l.source + l.from ≡ g.S.ByteSource.count l.fn.source + l.at)
    × (IsUtf8 (part l.from l.to (g.S.ByteSource.bytes l.fn.source)) ↔ IsUtf8 (part l.at l.to (g.S.ByteSource.bytes l.fn.source)))

abbrev pub decreases-loop-at : goal.decreases-loop-at
decreases-loop-at g l = l.to - l.at
