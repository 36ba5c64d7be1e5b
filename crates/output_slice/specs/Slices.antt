-- The three slices of output: their starts and ends.
use Rattle.std.specs.Prelude.{◌≡◌, ℕ, ◌+◌, ◌-◌, ◌<◌, ◌≤◌, ◌≢◌, ◌⊎◌, List, ◌∷◌, ◌++◌, length, slice_index, take, drop, codes, IsTrue, All, Option, None, Some, MatchOption, IfSome, option_map, sum_by}
use Rattle.std.specs.Char.{IsScalar, is_whitespace}
use Rattle.std.specs.Str.{encode_utf8_all}
use Rattle.bstr.specs.Find.{OccursAt, IsFirst}
use Rattle.bstr.specs.Text.{Contains, part, without_terminator}
use Rattle.output_slice.specs.declared.panic_head.HeadSpan.{HeadSpan}
use Rattle.output_slice.specs.Head.{IsLineStart}
use Rattle.output_slice.specs.Taken.{IsLastTaken}
use Rattle.output_slice.specs.Lines.{AreLines}

-- A part of some bytes: its offset in them, and its own bytes.
pub record Slice : Type 0 where
  pub start : ℕ
  pub bytes : List ℕ

-- The slice is not empty, and its bytes are in b at its start.
abbrev pub IsPart : List ℕ → Slice → Type 0
IsPart b x = (0 < length x.bytes) × OccursAt b x.bytes x.start

-- The text is empty, or UTF-8 whose characters all have the property White_Space.
abbrev pub IsBlank : List ℕ → Type 0
IsBlank text = (cs : List ℕ) × All (λ c. IsScalar c × IsTrue (is_whitespace c)) cs × (text ≡ encode_utf8_all cs)

-- Trimming: e is the first offset from s on such that the rest of b is blank.
abbrev pub IsTrimmed : List ℕ → ℕ → ℕ → Type 0
IsTrimmed b s e = IsFirst (λ i. IsBlank (drop i b)) s (length b + 1) (Some e)

-- The bytes of the slice are those of b from its start on, without the white space at the end.
abbrev pub IsTrimmedSlice : List ℕ → Slice → Type 0
IsTrimmedSlice b x = (e : ℕ) × IsTrimmed b x.start e × (x.bytes ≡ part x.start e b)

-- The byte is a line feed or a carriage return.
abbrev pub IsBreak : ℕ → Type 0
IsBreak x = (x ≡ 10) ⊎ (x ≡ 13)

-- Without the breaks at its end, the part of b before s ends with a line that begins with `Error:`. The line feed before
-- that line is at j.
pub record IsErrorLine (b : List ℕ) (s j : ℕ) : Type 0 where
  pub stop : ℕ
  pub within : stop ≤ s
  pub breaks : (i : ℕ) → stop ≤ i → i < s → IsBreak (slice_index b i)
  pub text : ¬ IsBreak (slice_index b (stop - 1))
  pub begins : OccursAt (take stop b) (codes "\nError:") j
  pub one_line : (i : ℕ) → j < i → i < stop → slice_index b i ≢ 10

-- Widening: t is the start of the error line before s, or s if there is no error line.
abbrev pub IsWidened : List ℕ → ℕ → ℕ → Type 0
IsWidened b s t = ((j : ℕ) × IsErrorLine b s j × (t ≡ j + 1)) ⊎ (((j : ℕ) → ¬ IsErrorLine b s j) × (t ≡ s))

-- `found` starts at the widened start of the last taken head, and is trimmed. It is `None` if no head is taken.
abbrev pub IsPanicSlice : List ℕ → Option Slice → Type 0
IsPanicSlice b found = MatchOption found (IsLastTaken b None)
    (λ x. (head : HeadSpan) × IsLastTaken b (Some head) × IsWidened b head.start x.start × IsTrimmedSlice b x)

-- The offset s is a line start, and `Error: ` is there.
abbrev pub IsErrorStart : List ℕ → ℕ → Type 0
IsErrorStart b s = IsLineStart b s × OccursAt b (codes "Error: ") s

-- `found` starts at the first line start that has `Error: `, and is trimmed. It is `None` if no line start has it.
abbrev pub IsErrorSlice : List ℕ → Option Slice → Type 0
IsErrorSlice b found = IsFirst (IsErrorStart b) 0 (length b + 1) (option_map (λ x. x.start) found) × IfSome found (IsTrimmedSlice b)

-- The line contains the note that a test did not panic.
abbrev pub IsNote : List ℕ → Type 0
IsNote line = Contains line (codes "note: test did not panic as expected")

-- `found` is the first line that contains the note, without its line end, and its start is the length of all lines before
-- it. It is `None` if no line contains the note.
abbrev pub IsNoteLine : List ℕ → Option Slice → Type 0
IsNoteLine b found = (lines : List (List ℕ)) × AreLines b lines × MatchOption found (All (λ line. ¬ IsNote line) lines)
    (λ x. (before : List (List ℕ)) × (line : List ℕ) × (after : List (List ℕ)) × (lines ≡ before ++ line ∷ after)
    × All (λ line. ¬ IsNote line) before × IsNote line × (x.start ≡ sum_by length before) × (x.bytes ≡ without_terminator line))
