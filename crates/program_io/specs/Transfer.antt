-- The bytes that were written of a text, if it was not written whole.
use Rattle.std.specs.Prelude.{◌≡◌, ℕ, ◌++◌, List, Option}
use Rattle.std.specs.Io.KnownBytes.{Appends}

-- if the bytes written are known, some first bytes of the text were appended to them
abbrev pub AppendsStart : Option (List ℕ) → Option (List ℕ) → List ℕ → Type 0
AppendsStart old new text = (start rest : List ℕ) × (text ≡ start ++ rest) × Appends old new start
