-- Texts and templates without control characters.
use Rattle.std.specs.Prelude.{◌&&◌, ℕ, Bool, true, not, List}
use Rattle.std.specs.Str.{NoCharPasses}
use Rattle.template.specs.Shown.{is_escaped, is_text_of}
use Rattle.template.specs.Template.{EachPart, HolePart, NoParts, NonePart, OnePart, PartView, Parts, TextPart}

-- the text has no control characters except tabs and line feeds, and no characters that change the direction of writing
abbrev pub HasNoControls : List ℕ → Type 0
HasNoControls text = NoCharPasses is_escaped text

-- the character is shown as it is
abbrev pub is_seen : ℕ → Bool
is_seen c = not (is_escaped c)

abbrev mutual
  -- the texts of a part are of characters that pass a test
  pub part_is_of : (ℕ → Bool) → PartView → Bool
  part_is_of test (TextPart text) = is_text_of test text
  part_is_of test (HolePart kind name) = true
  part_is_of test (EachPart name ps) = is_of test ps
  part_is_of test (NonePart name ps) = is_of test ps

  -- the texts of parts are of characters that pass a test
  pub is_of : (ℕ → Bool) → Parts → Bool
  is_of test NoParts = true
  is_of test (OnePart p ps) = part_is_of test p && is_of test ps

-- the texts of parts have no control characters
abbrev pub is_clean : Parts → Bool
is_clean ps = is_of is_seen ps
