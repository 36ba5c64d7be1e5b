-- The devices after an engine, which reads a source to its end, makes a text of the bytes, and writes the text to a sink.
use Rattle.std.specs.Prelude.{◌≡◌, ◌≢◌, ℕ, List, Option, Ok, Err, IfErr}
use Rattle.std.specs.Io.KnownBytes.{Appends, IsAtEnd, Keeps}
use Rattle.std.specs.declared.result.Result.{Result}
use Rattle.program_io.specs.Transfer.{AppendsStart}

-- The step of an engine at which an error occurred: it was reading, it refused the input, or it was writing.
pub data Stage : Type 0 where
  Reading : Stage
  Refusing : Stage
  Writing : Stage

-- nothing was written, unless the result is `Ok` or the error occurred while writing
abbrev pub KeepsSink : {T E : Type 0} → (E → Stage) → Result T E → Option (List ℕ) → Option (List ℕ) → Type 0
KeepsSink stage result old new = IfErr result (λ e. stage e ≢ Writing → Keeps old new)

-- nothing is left unread, unless the error occurred while reading
abbrev pub ReadsToEnd : {T E : Type 0} → (E → Stage) → Result T E → Option (List ℕ) → Type 0
ReadsToEnd stage (Ok answer) left = IsAtEnd left
ReadsToEnd stage (Err e) left = stage e ≢ Reading → IsAtEnd left

-- With `Ok`, a whole text was written that is right for the answer. If the error occurred while writing, some first bytes of
-- a right text were written.
abbrev pub Answers : {T E : Type 0} → (E → Stage) → (List ℕ → T → Type 0) → Result T E → Option (List ℕ) → Option (List ℕ) → Type 0
Answers stage IsRight (Ok answer) old new = (text : List ℕ) × IsRight text answer × Appends old new text
Answers {T} stage IsRight (Err e) old new =
    stage e ≡ Writing → (text : List ℕ) × (answer : T) × IsRight text answer × AppendsStart old new text
