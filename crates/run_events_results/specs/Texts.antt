-- The displayed texts of kinds of units, failures and aborts.
use Rattle.std.specs.Prelude.{Bool, true, false, ℕ, ℤ, ◌/◌, ◌%◌, zero, suc, List, [], ◌∷◌, ◌++◌, codes, Option, None, Some, String, string_bytes}
use Rattle.std.specs.Int.{cast_unsigned, w32}
use Rattle.std.specs.Fmt.{signed_decimal, digit_glyph}
use Rattle.std.specs.declared.alloc.Global.{Global}
use Rattle.run_events_results.specs.declared.results.UnitKind.{UnitKind}
use Rattle.run_events_results.specs.declared.results.UnitKind.TheVariants as kind
use Rattle.run_events_results.specs.declared.results.failure.AbortDescription.{AbortDescription}
use Rattle.run_events_results.specs.declared.results.failure.AbortDescription.TheVariants as abort
use Rattle.run_events_results.specs.declared.results.failure.FailureDescription.{FailureDescription}
use Rattle.run_events_results.specs.declared.results.failure.FailureDescription.TheVariants as failure

-- the last k hexadecimal digits of a number, in lower case
abbrev pub hexadecimal_digits : ℕ → ℕ → List ℕ
hexadecimal_digits zero n = []
hexadecimal_digits (suc k) n = hexadecimal_digits k (n / 16) ++ digit_glyph false (n % 16) ∷ []

-- the 32 bits of a code as eight hexadecimal digits
unfoldable pub code_digits : ℤ → List ℕ
code_digits code = hexadecimal_digits 8 (cast_unsigned w32 code)

-- a text between two others, or nothing if there is no text
abbrev pub within : List ℕ → Option (String Global) → List ℕ → List ℕ
within before None after = []
within before (Some text) after = before ++ string_bytes text ++ after

-- the displayed text of an abort
abbrev pub abort_text : AbortDescription → List ℕ
abort_text (abort.UnixSignal signal name) = codes "aborted with signal " ++ signed_decimal signal ++ within (codes " (SIG") name (codes ")")
abort_text (abort.WindowsNtStatus code message) = codes "aborted with code 0x" ++ code_digits code ++ within (codes ": ") message []
abort_text abort.WindowsJobObject = codes "terminated via job object"

-- the displayed text of a failure
abbrev pub failure_text : FailureDescription → List ℕ
failure_text (failure.ExitCode code) = codes "exited with code " ++ signed_decimal code
failure_text (failure.Abort a) = abort_text a

-- the text for a handle that was left open, or nothing
abbrev pub leak_text : Bool → List ℕ
leak_text true = codes " (leaked handles)"
leak_text false = []

-- the text of an abort as an error of a unit
abbrev pub unit_abort_text : AbortDescription → Bool → List ℕ
unit_abort_text a leaked = codes "process " ++ abort_text a ++ leak_text leaked

-- the message while the runner waits for the process of a unit
abbrev pub waiting_text : UnitKind → List ℕ
waiting_text kind.Test = codes "waiting on test process"
waiting_text kind.Script = codes "waiting on script process"

-- the description of the errors of a unit
abbrev pub executing_text : UnitKind → List ℕ
executing_text kind.Test = codes "executing test"
executing_text kind.Script = codes "executing script"
