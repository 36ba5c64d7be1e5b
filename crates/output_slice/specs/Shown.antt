-- How contracts see slices: by their bytes and starts, without addresses.
use Rattle.std.specs.Prelude.{ℕ, List, Option, None, Some}
use Rattle.std.specs.Str.{encode_utf8_all}
use Rattle.bstr.specs.Utf8.{lossy_chars}
use Rattle.output_slice.specs.declared.subslice.ByteSubslice.{ByteSubslice}
use Rattle.output_slice.specs.declared.subslice.TestOutputErrorSlice.{TestOutputErrorSlice}
use Rattle.output_slice.specs.declared.subslice.TestOutputErrorSlice.TheVariants.{PanicMessage, ErrorStr, ShouldPanic}
use Rattle.output_slice.specs.Slices.{Slice}
use Rattle.output_slice.specs.Extraction.{Extract, panic_slice, error_slice, note_line}

-- The bytes and the start of a subslice.
abbrev pub slice_of : ByteSubslice → Slice
slice_of x = record { start = x.start; bytes = x.slice.now }

-- The slice of each kind: a panic message is a panic slice, an error is an error slice, and the note is a note line.
abbrev pub extract_of : TestOutputErrorSlice → Extract
extract_of (PanicMessage x) = panic_slice (slice_of x)
extract_of (ErrorStr x) = error_slice (slice_of x)
extract_of (ShouldPanic x) = note_line (slice_of x)

-- The subslice, whichever stream it is from.
abbrev pub part_of : TestOutputErrorSlice → ByteSubslice
part_of (PanicMessage x) = x
part_of (ErrorStr x) = x
part_of (ShouldPanic x) = x

-- The subslice if it is from standard error: that of a panic message or of an error.
abbrev pub stderr_part : TestOutputErrorSlice → Option ByteSubslice
stderr_part (PanicMessage x) = Some x
stderr_part (ErrorStr x) = Some x
stderr_part (ShouldPanic x) = None

-- The subslice if it is from standard output: that of a note line.
abbrev pub stdout_part : TestOutputErrorSlice → Option ByteSubslice
stdout_part (PanicMessage x) = None
stdout_part (ErrorStr x) = None
stdout_part (ShouldPanic x) = Some x

-- The displayed text of a slice: its bytes, with U+FFFD for each malformed piece.
abbrev pub shown_text : TestOutputErrorSlice → List ℕ
shown_text s = encode_utf8_all (lossy_chars (part_of s).slice.now)
