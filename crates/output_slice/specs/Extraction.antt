-- Extraction: which of the three slices explains a test's failure.
use Rattle.std.specs.Prelude.{◌≡◌, ℕ, List, Option, None, Some, MatchOption, option_map, take}
use Rattle.output_slice.specs.Slices.{Slice, IsPart, IsPanicSlice, IsErrorSlice, IsNoteLine}

-- A slice with its kind.
pub data Extract : Type 0 where
  panic_slice : Slice → Extract
  error_slice : Slice → Extract
  note_line : Slice → Extract

-- `found` is the slice of the bytes of a captured stream. A stream that was not captured has none.
abbrev pub OfStream : (List ℕ → Option Slice → Type 0) → Option (List ℕ) → Option Slice → Type 0
OfStream Is stream found = MatchOption stream (found ≡ None) (λ b. Is b found)

-- The result is the panic slice of err, or else its error slice, or else the note line of out, or else `None`.
abbrev pub IsExtract : Option (List ℕ) → Option (List ℕ) → Option Extract → Type 0
IsExtract out err (Some (panic_slice x)) = OfStream IsPanicSlice err (Some x)
IsExtract out err (Some (error_slice x)) = OfStream IsPanicSlice err None × OfStream IsErrorSlice err (Some x)
IsExtract out err (Some (note_line x)) = OfStream IsPanicSlice err None × OfStream IsErrorSlice err None × OfStream IsNoteLine out (Some x)
IsExtract out err None = OfStream IsPanicSlice err None × OfStream IsErrorSlice err None × OfStream IsNoteLine out None

-- The stream was captured, and the slice is a part of it that is not empty.
abbrev pub IsPartOf : Option (List ℕ) → Slice → Type 0
IsPartOf stream x = MatchOption stream ⊥ (λ b. IsPart b x)

-- A panic slice and an error slice are parts of err, and a note line is a part of out.
abbrev pub LiesIn : Option (List ℕ) → Option (List ℕ) → Extract → Type 0
LiesIn out err (panic_slice x) = IsPartOf err x
LiesIn out err (error_slice x) = IsPartOf err x
LiesIn out err (note_line x) = IsPartOf out x

-- The first bytes of a slice, at most `limit`. The cut may be inside a character, and white space before it stays.
abbrev pub capped_slice : ℕ → Slice → Slice
capped_slice limit x = record { start = x.start; bytes = take limit x.bytes }

-- The same for an extraction, whose kind stays.
abbrev pub capped : ℕ → Extract → Extract
capped limit (panic_slice x) = panic_slice (capped_slice limit x)
capped limit (error_slice x) = error_slice (capped_slice limit x)
capped limit (note_line x) = note_line (capped_slice limit x)

-- `found` is the extraction, cut to its first `limit` bytes.
abbrev pub IsCappedExtract : ℕ → Option (List ℕ) → Option (List ℕ) → Option Extract → Type 0
IsCappedExtract limit out err found = (whole : Option Extract) × IsExtract out err whole × (found ≡ option_map (capped limit) whole)
