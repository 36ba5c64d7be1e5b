-- Which heads are taken: leftmost first, and disjoint.
use Rattle.std.specs.Prelude.{◌≡◌, ℕ, ◌-◌, ◌<◌, ◌≤◌, ◌↔◌, List, length, slice_get, All, AllPairs, Contains, Option}
use Rattle.output_slice.specs.declared.panic_head.HeadSpan.{HeadSpan}
use Rattle.output_slice.specs.Head.{IsHead}

-- The list has only heads, in the order of their starts. A head is in the list if and only if no head of the list that
-- starts before it ends after its start.
pub record IsTaken (b : List ℕ) (taken : List HeadSpan) : Type 0 where
  pub heads : All (λ h. IsHead b h.start h.stop) taken
  pub rising : AllPairs (λ g h. g.start < h.start) taken
  pub rule : (h : HeadSpan) → IsHead b h.start h.stop
      → (Contains taken h ↔ All (λ g. g.start < h.start → g.stop ≤ h.start) taken)

-- The last of the list, if it has one.
abbrev pub last_of : List HeadSpan → Option HeadSpan
last_of taken = slice_get taken (length taken - 1)

-- `found` is the last taken head, or `None` if no head is taken.
abbrev pub IsLastTaken : List ℕ → Option HeadSpan → Type 0
IsLastTaken b found = (taken : List HeadSpan) × IsTaken b taken × (found ≡ last_of taken)
