-- Whether every value of a template is in a text or in the value of an attribute.
use Rattle.std.specs.Prelude.{ℕ, not, codes, Bool, ◌&&◌, true, false, List, [], ◌∷◌, if◌then◌else◌, map}
use Rattle.std.specs.List.{fold, list_any}
use Rattle.std.specs.Str.{bytes_eq, str_eq_ignore_ascii_case}
use Rattle.template.specs.Reader.{AfterValue, AttributeName, Content, EndTag, Equals, Open, Opening, Place, Reading, Reference, Refused, Slash, Space, StartName, Tag, Value, ValueReference, step}
use Rattle.template.specs.declared.hole.Hole.{Hole}
use Rattle.template.specs.declared.hole.Hole.TheVariants as hole
use Rattle.template.specs.Template.{EachPart, HolePart, NoParts, NonePart, OnePart, PartView, Parts, TextPart}

-- an open element without all but its name
abbrev pub bare_open : Open → Open
bare_open o = record { name = o.name; attributes = []; before = [] }

-- a place without all but the names of the open elements
abbrev pub bare_place : Place → Place
bare_place p = record { trees = []; around = map bare_open p.around }

-- a start tag without its attributes
abbrev pub bare_tag : Tag → Tag
bare_tag t = record { place = bare_place t.place; name = t.name; attributes = [] }

-- a state of the reader without what it has read, except names that are still needed
abbrev pub bare : Reading → Reading
bare (Content p) = Content (bare_place p)
bare (Reference p name) = Reference (bare_place p) name
bare (Opening p) = Opening (bare_place p)
bare (StartName p name) = StartName (bare_place p) name
bare (Space t) = Space (bare_tag t)
bare (AttributeName t name) = AttributeName (bare_tag t) []
bare (Equals t name) = Equals (bare_tag t) []
bare (Value t name value) = Value (bare_tag t) [] []
bare (ValueReference t name value ref) = ValueReference (bare_tag t) [] [] ref
bare (AfterValue t) = AfterValue (bare_tag t)
bare (Slash t) = Slash (bare_tag t)
bare (EndTag p rest) = EndTag (bare_place p) rest
bare Refused = Refused

-- the bare state after one more byte
abbrev pub bare_step : Reading → ℕ → Reading
bare_step r c = bare (step r c)

-- the names of these are the same
abbrev pub same_names : List Open → List Open → Bool
same_names [] [] = true
same_names [] (o ∷ os) = false
same_names (p ∷ ps) [] = false
same_names (p ∷ ps) (o ∷ os) = bytes_eq p.name o.name && same_names ps os

-- both are between tags in the same elements, or both are after the value of an attribute in the same start tag
abbrev pub same_state : Reading → Reading → Bool
same_state (Content p) (Content q) = same_names p.around q.around
same_state (AfterValue t) (AfterValue u) = bytes_eq t.name u.name && same_names t.place.around u.place.around
same_state _ _ = false

-- the elements in which HTML reads no references, or which it does not show
abbrev pub raw_names : List (List ℕ)
raw_names =
    codes "style" ∷ codes "script" ∷ codes "noscript" ∷ codes "xmp" ∷ codes "iframe" ∷ codes "noembed" ∷ codes "noframes" ∷ codes "plaintext"
    ∷ codes "template" ∷ []

-- an element has one of these names, in letters of any case
abbrev pub is_raw : Open → Bool
is_raw o = list_any (str_eq_ignore_ascii_case o.name) raw_names

-- an element is open
abbrev pub has_open : List Open → Bool
has_open [] = false
has_open (o ∷ os) = true

-- a value may be here: in the value of an attribute, or in a text in an element, and in no element with such a name
abbrev pub takes : Hole → Reading → Bool
takes hole.Attribute (Value t name value) = not (list_any is_raw t.place.around)
takes hole.Text (Content p) = has_open p.around && not (list_any is_raw p.around)
takes _ _ = false

abbrev mutual
  -- the bare state after a part, whatever its values are
  pub after_part : PartView → Reading → Reading
  after_part (TextPart text) r = fold bare_step r text
  after_part (HolePart kind name) r = if takes kind r then r else Refused
  after_part (EachPart name ps) r = if same_state (after_parts ps r) r then r else Refused
  after_part (NonePart name ps) r = if same_state (after_parts ps r) r then r else Refused

  -- the bare state after parts
  pub after_parts : Parts → Reading → Reading
  after_parts NoParts r = r
  after_parts (OnePart p ps) r = after_parts ps (after_part p r)

-- the bare states of the reader pass a test after each byte of a text
abbrev pub text_passes : (Reading → Bool) → List ℕ → Reading → Bool
text_passes test [] r = true
text_passes test (c ∷ text) r = test (bare_step r c) && text_passes test text (bare_step r c)

abbrev mutual
  -- they pass it after each byte of a part
  pub part_passes : (Reading → Bool) → PartView → Reading → Bool
  part_passes test (TextPart text) r = text_passes test text r
  part_passes test (HolePart kind name) r = test r
  part_passes test (EachPart name ps) r = parts_pass test ps r
  part_passes test (NonePart name ps) r = parts_pass test ps r

  -- they pass it after each byte of parts
  pub parts_pass : (Reading → Bool) → Parts → Reading → Bool
  parts_pass test NoParts r = true
  parts_pass test (OnePart p ps) r = part_passes test p r && parts_pass test ps (after_part p r)

-- the state before a text
abbrev pub at_start : Reading
at_start = Content (record { trees = []; around = [] })

-- all elements are closed
abbrev pub is_end : Reading → Bool
is_end (Content p) = same_names p.around []
is_end _ = false

-- values are only in texts and in values of attributes, in elements in which HTML reads references, and all elements are closed
unfoldable pub is_sound : Parts → Bool
is_sound ps = is_end (after_parts ps at_start)
