-- Blank lines, and places where a text may be cut.
use Rattle.std.specs.Prelude.{◌&&◌, ◌||◌, ◌==◌, ℕ, zero, suc, List, Bool, if◌then◌else◌, length, nat_le, nat_lt, slice_index}
use Rattle.std.specs.Str.{trim}

-- the line is blank
abbrev pub is_blank : List ℕ → Bool
is_blank line = length (trim line) == 0

-- a text may be cut at this place: it is not inside a character
abbrev pub is_boundary : List ℕ → ℕ → Bool
is_boundary line i = nat_le i (length line) && (nat_le (length line) i || (nat_lt (slice_index line i) 128 || nat_le 192 (slice_index line i)))

-- the last place up to this one at which a text may be cut
abbrev pub floor_of : List ℕ → ℕ → ℕ
floor_of line zero = 0
floor_of line (suc n) = if is_boundary line (suc n) then suc n else floor_of line n
