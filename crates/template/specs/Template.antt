-- Templates, what they are rendered of, and what is rendered.
use Rattle.std.specs.Prelude.{ℕ, Bool, true, false, List, [], ◌∷◌, ◌++◌, if◌then◌else◌, Option, Some, None, option_to_list, unwrap_or, map, string_bytes}
use Rattle.std.specs.List.{flat_map}
use Rattle.std.specs.Str.{bytes_eq}
use Rattle.template.specs.Hole.{hole_text}
use Rattle.template.specs.declared.hole.Hole.{Hole}
use Rattle.template.specs.declared.part.Part.{Part, fold-Part}
use Rattle.template.specs.declared.part.Part.TheOpen.{Part-F}
use Rattle.template.specs.declared.value.Value.{Value, fold-Value}
use Rattle.template.specs.declared.value.Value.TheOpen.{Value-F}

mutual
  -- a part of a template: a text; a hole for a value; parts for each item; parts if there is no item
  pub data PartView : Type 0 where
    TextPart : List ℕ → PartView
    HolePart : Hole → List ℕ → PartView
    EachPart : List ℕ → Parts → PartView
    NonePart : List ℕ → Parts → PartView

  -- parts, one after another
  pub data Parts : Type 0 where
    NoParts : Parts
    OnePart : PartView → Parts → Parts

mutual
  -- a text with a name, or an item of the list with a name
  pub data ValueView : Type 0 where
    TextValue : List ℕ → List ℕ → ValueView
    ItemValue : List ℕ → Values → ValueView

  -- what a template, or its parts for an item, are rendered of
  pub data Values : Type 0 where
    NoValues : Values
    OneValue : ValueView → Values → Values

-- a list of parts
abbrev pub parts_of : List PartView → Parts
parts_of [] = NoParts
parts_of (p ∷ ps) = OnePart p (parts_of ps)

-- a list of values
abbrev pub values_of : List ValueView → Values
values_of [] = NoValues
values_of (v ∷ vs) = OneValue v (values_of vs)

-- a section with these values, unless there are none
abbrev pub section : List ℕ → List ValueView → List ValueView
section name [] = []
section name (v ∷ vs) = ItemValue name (values_of (v ∷ vs)) ∷ []

-- the text of a value with this name
abbrev pub text_in : List ℕ → ValueView → Option (List ℕ)
text_in name (TextValue key text) = if bytes_eq key name then Some text else None
text_in name (ItemValue key inner) = None

-- the values of an item of the list with this name
abbrev pub item_in : List ℕ → ValueView → Option Values
item_in name (TextValue key text) = None
item_in name (ItemValue key inner) = if bytes_eq key name then Some inner else None

-- the first text with this name, or nothing
abbrev pub text_of : List ℕ → Values → List ℕ
text_of name NoValues = []
text_of name (OneValue v vs) = unwrap_or (text_in name v) (text_of name vs)

-- the items of the list with this name
abbrev pub items_of : List ℕ → Values → List Values
items_of name NoValues = []
items_of name (OneValue v vs) = option_to_list (item_in name v) ++ items_of name vs

-- there is an item
abbrev pub has_items : List Values → Bool
has_items [] = false
has_items (i ∷ is) = true

-- the parts of a section, if there are no items
abbrev pub if_none : List Values → List ℕ → List ℕ
if_none [] text = text
if_none (i ∷ is) text = []

unfoldable mutual
  -- what is rendered of a part
  pub part_text : PartView → Values → List ℕ
  part_text (TextPart text) vs = text
  part_text (HolePart kind name) vs = hole_text kind (text_of name vs)
  part_text (EachPart name ps) vs = flat_map (parts_text ps) (items_of name vs)
  part_text (NonePart name ps) vs = if_none (items_of name vs) (parts_text ps vs)

  -- what is rendered of parts
  pub parts_text : Parts → Values → List ℕ
  parts_text NoParts vs = []
  parts_text (OnePart p ps) vs = part_text p vs ++ parts_text ps vs

-- a part that is kept, if those in it are these
abbrev pub part_step : Part-F PartView → PartView
part_step (Part-F.Text text) = TextPart (string_bytes text)
part_step (Part-F.Hole kind name) = HolePart kind (string_bytes name)
part_step (Part-F.Each name parts) = EachPart (string_bytes name) (parts_of parts.items)
part_step (Part-F.Otherwise name parts) = NonePart (string_bytes name) (parts_of parts.items)

-- a part that is kept
abbrev pub part_view : Part → PartView
part_view = fold-Part PartView part_step

-- parts that are kept
abbrev pub parts_view : List Part → Parts
parts_view ps = parts_of (map part_view ps)

-- a value that is kept, if those in it are these
abbrev pub value_step : Value-F ValueView → ValueView
value_step (Value-F.Text name text) = TextValue name.now (string_bytes text)
value_step (Value-F.Item name values) = ItemValue name.now (values_of values.items)

-- a value that is kept
abbrev pub value_view : Value → ValueView
value_view = fold-Value ValueView value_step

-- values that are kept
abbrev pub values_view : List Value → Values
values_view vs = values_of (map value_view vs)
