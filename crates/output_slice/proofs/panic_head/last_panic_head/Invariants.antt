use Rattle.std.proofs.Common.{◌≡◌, ◌-◌, length}
use Rattle.output_slice.proofs.SearchLemmas.{Searched}
use Rattle.output_slice.proofs.panic_head.last_panic_head.Given as goal

abbrev pub invariant-loop-next : goal.invariant-loop-next
invariant-loop-next g l =
    (g.S.ByteSource.bytes l.source ≡ g.S.ByteSource.bytes l.fn.source)
    × Searched (g.S.ByteSource.bytes l.fn.source) (g.S.ByteSource.count l.fn.source) (g.S.ByteSource.count l.source) l.place l.next l.last

abbrev pub decreases-loop-next : goal.decreases-loop-next
decreases-loop-next g l = length (g.S.ByteSource.bytes l.fn.source) - l.place
