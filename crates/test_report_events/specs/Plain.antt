-- The text of a line as the lines of cargo and nextest are looked for in it.
use Rattle.std.specs.Prelude.{◌≡◌, ◌≢◌, ◌&&◌, ◌==◌, ℕ, List, [], ◌∷◌, ◌++◌, Bool, true, nat_le, ⊤}
use Rattle.std.specs.List.{AllPass, after_last}
use Rattle.std.specs.Str.Lossy.{utf8_lossy}
use Rattle.bstr.specs.Text.{no_cr}

-- a byte of the parameters of an escape: from `0` to `?`
abbrev pub is_parameter : ℕ → Bool
is_parameter b = nat_le 48 b && nat_le b 63

-- the last byte of an escape: from `@` to `~`
abbrev pub is_final : ℕ → Bool
is_final b = nat_le 64 b && nat_le b 126

-- an escape, for example a colour: `ESC [`, then parameters, then a last byte
pub record IsEscape (text : List ℕ) : Type 0 where
  pub parameters : List ℕ
  pub final : ℕ
  pub passes : AllPass is_parameter parameters
  pub ends : is_final final ≡ true
  pub is : text ≡ 27 ∷ 91 ∷ (parameters ++ final ∷ [])

-- a part of a line: an escape, or one other byte
pub data Part : Type 0 where
  Escape : List ℕ → Part
  Byte : ℕ → Part

-- the bytes of parts
abbrev pub written : List Part → List ℕ
written [] = []
written (Escape text ∷ parts) = text ++ written parts
written (Byte b ∷ parts) = b ∷ written parts

-- the bytes that are in no escape
abbrev pub kept : List Part → List ℕ
kept [] = []
kept (Escape text ∷ parts) = kept parts
kept (Byte b ∷ parts) = b ∷ kept parts

-- each escape is one, and no escape begins at another byte
abbrev pub AreParts : List Part → Type 0
AreParts [] = ⊤
AreParts (Escape text ∷ parts) = IsEscape text × AreParts parts
AreParts (Byte b ∷ parts) = ((text rest : List ℕ) → IsEscape text → b ∷ written parts ≢ text ++ rest) × AreParts parts

-- the line without its escapes is this text
abbrev pub IsWithoutEscapes : List ℕ → List ℕ → Type 0
IsWithoutEscapes line text = (parts : List Part) × AreParts parts × (line ≡ written parts) × (text ≡ kept parts)

-- the text of a line: what is not UTF-8 is U+FFFD, and a carriage return at the end is left out
abbrev pub line_text : List ℕ → List ℕ
line_text line = utf8_lossy (no_cr line)

-- the plain text of a line: its text without escapes, and without what a carriage return lets the terminal write over
abbrev pub IsPlain : List ℕ → List ℕ → Type 0
IsPlain line plain = (text : List ℕ) × IsWithoutEscapes (no_cr line) text × (plain ≡ utf8_lossy (after_last (λ b. b == 13) text))
