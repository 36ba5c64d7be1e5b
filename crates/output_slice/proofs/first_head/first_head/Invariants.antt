use Rattle.std.proofs.Common.{◌≡◌, ◌-◌, None, length}
use Rattle.output_slice.proofs.FirstLemmas.{NoneBefore}
use Rattle.output_slice.proofs.SearchLemmas.{Searched}
use Rattle.output_slice.proofs.first_head.first_head.Given as goal

abbrev pub invariant-loop-next : goal.invariant-loop-next
invariant-loop-next l =
    (l.source.0 ≡ l.bytes) × Searched l.bytes 0 l.source.1 l.place l.next None × NoneBefore l.bytes l.place

abbrev pub decreases-loop-next : goal.decreases-loop-next
decreases-loop-next l = length l.bytes - l.place
