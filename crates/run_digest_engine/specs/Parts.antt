-- The parts of a text that an iterator has not returned yet.
use Rattle.std.specs.Prelude.{◌==◌, ℕ, List, [], Option, None, Some}
use Rattle.std.specs.Borrow.{Bor}
use Rattle.std.specs.List.{slice_split}

-- the parts of the rest of a text, divided by a byte
abbrev pub parts_left : ℕ → Option (Bor (List ℕ)) → List (List ℕ)
parts_left divider None = []
parts_left divider (Some text) = slice_split (λ b. b == divider) text.now
