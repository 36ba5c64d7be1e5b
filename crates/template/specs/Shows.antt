-- The holes of a template.
use Rattle.std.specs.Prelude.{◌≡◌, ◌&&◌, ◌||◌, ◌++◌, ◌∷◌, [], ℕ, Bool, true, false, List}
use Rattle.std.specs.List.{flat_map}
use Rattle.std.specs.Str.{bytes_eq}
use Rattle.template.specs.Template.{EachPart, HolePart, NoParts, NonePart, OnePart, PartView, Parts, TextPart, Values, items_of}
use Rattle.template.specs.declared.hole.Hole.{Hole}
use Rattle.template.specs.declared.hole.Hole.TheVariants as hole

-- the kinds are the same
abbrev pub same_kind : Hole → Hole → Bool
same_kind hole.Text hole.Text = true
same_kind hole.Attribute hole.Attribute = true
same_kind hole.Plain hole.Plain = true
same_kind _ _ = false

abbrev mutual
  -- a part has a hole of this kind for the text with this name of each item on this path: in sections with these names, one in another
  pub part_shows : PartView → Hole → List (List ℕ) → List ℕ → Bool
  part_shows (TextPart text) kind path name = false
  part_shows (HolePart own key) kind [] name = same_kind own kind && bytes_eq key name
  part_shows (HolePart own key) kind (s ∷ path) name = false
  part_shows (EachPart key ps) kind [] name = false
  part_shows (EachPart key ps) kind (s ∷ path) name = bytes_eq key s && parts_show ps kind path name
  part_shows (NonePart key ps) kind path name = false

  -- parts have such a hole
  pub parts_show : Parts → Hole → List (List ℕ) → List ℕ → Bool
  parts_show NoParts kind path name = false
  parts_show (OnePart p ps) kind path name = part_shows p kind path name || parts_show ps kind path name

-- the items on a path
abbrev pub items_at : List (List ℕ) → Values → List Values
items_at [] vs = vs ∷ []
items_at (s ∷ path) vs = flat_map (items_at path) (items_of s vs)

-- this is a part of a text
pub record HasPart (text part : List ℕ) : Type 0 where
  pub before : List ℕ
  pub after : List ℕ
  pub is : text ≡ before ++ (part ++ after)
