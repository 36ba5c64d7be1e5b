-- Lines that are cut, and the longest end of lines that fits.
use Rattle.std.specs.Prelude.{◌+◌, ◌++◌, ◌∷◌, [], ℕ, List, Bool, drop, length, nat_le, unwrap_or}
use Rattle.std.specs.List.{find, join_with_byte, range_with_len, slice_range, sum_by}
use Rattle.test_report_run_notes.specs.Texts.{floor_of}

-- at most this many bytes of a line, cut at a character. It does not unfold by itself, since it tries as many places
unfoldable pub cut_to : ℕ → List ℕ → List ℕ
cut_to most line = slice_range line 0 (floor_of line most)

-- the most bytes that are kept of prints
abbrev pub most_bytes : ℕ
most_bytes = 16384

-- lines, with a line feed between two of them
abbrev pub joined : List (List ℕ) → List ℕ
joined lines = join_with_byte 10 lines

-- how many bytes lines have, with a line feed after each
abbrev pub size_of : List (List ℕ) → ℕ
size_of lines = sum_by (λ line. length line + 1) lines

-- the lines without the first `n` fit: joined, they have at most this many bytes
abbrev pub fits_without : ℕ → List (List ℕ) → ℕ → Bool
fits_without most lines n = nat_le (length (joined (drop n lines))) most

-- the longest end of lines that has at most this many bytes
unfoldable pub longest_end : ℕ → List (List ℕ) → List (List ℕ)
longest_end most lines = drop (unwrap_or (find (fits_without most lines) (range_with_len 0 (length lines))) (length lines)) lines

-- the longest end of lines that fits, with one more line, of which at most as many bytes count as fit
abbrev pub with_kept : List (List ℕ) → List ℕ → List (List ℕ)
with_kept lines line = longest_end most_bytes (lines ++ cut_to most_bytes line ∷ [])
