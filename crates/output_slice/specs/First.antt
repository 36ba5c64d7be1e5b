-- The first head that is taken.
use Rattle.std.specs.Prelude.{◌≡◌, ℕ, List, Option, slice_get}
use Rattle.output_slice.specs.declared.panic_head.HeadSpan.{HeadSpan}
use Rattle.output_slice.specs.Taken.{IsTaken}

-- `found` is the first taken head, or `None` if no head is taken.
abbrev pub IsFirstTaken : List ℕ → Option HeadSpan → Type 0
IsFirstTaken b found = (taken : List HeadSpan) × IsTaken b taken × (found ≡ slice_get taken 0)
