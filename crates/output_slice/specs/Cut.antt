-- Line starts that no head crosses, at which the taken heads divide.
use Rattle.std.specs.Prelude.{ℕ, ◌+◌, ◌<◌, ◌≤◌, List, length}
use Rattle.output_slice.specs.declared.panic_head.HeadSpan.{HeadSpan}
use Rattle.output_slice.specs.Head.{IsLineStart, IsHead}

-- The offset c is a line start, and every head that starts before c ends at or before c.
pub record IsCut (b : List ℕ) (c : ℕ) : Type 0 where
  pub within : c ≤ length b
  pub line_start : IsLineStart b c
  pub uncrossed : (s e : ℕ) → IsHead b s e → s < c → e ≤ c

-- A head of the bytes from c on, as a head of all bytes.
abbrev pub head_behind : ℕ → HeadSpan → HeadSpan
head_behind c h = record { start = c + h.start; stop = c + h.stop }
