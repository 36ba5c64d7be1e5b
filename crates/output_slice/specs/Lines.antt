-- How bytes divide into lines.
use Rattle.std.specs.Prelude.{◌≡◌, ℕ, ◌+◌, ◌-◌, ◌<◌, List, length, slice_index, All, AllPairs}
use Rattle.std.specs.List.{concat}

-- The line is not empty, and a line feed in it is its last byte.
pub record IsLine (line : List ℕ) : Type 0 where
  pub some : 0 < length line
  pub feed : (k : ℕ) → slice_index line k ≡ 10 → k + 1 ≡ length line

-- The lines join to b, and every line except the last ends with a line feed.
pub record AreLines (b : List ℕ) (lines : List (List ℕ)) : Type 0 where
  pub joined : concat lines ≡ b
  pub each : All IsLine lines
  pub ends : AllPairs (λ line later. slice_index line (length line - 1) ≡ 10) lines
