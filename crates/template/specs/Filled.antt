-- A template is read, and its values are added as data.
use Rattle.std.specs.Prelude.{ℕ, List, [], ◌∷◌, ◌++◌, Option, Some, None}
use Rattle.std.specs.List.{fold}
use Rattle.template.specs.Check.{at_start}
use Rattle.template.specs.Reader.{Content, Open, Reading, Refused, Value, in_order, step, with_byte}
use Rattle.template.specs.Tree.{NoTrees, TreeView, Trees}
use Rattle.template.specs.Template.{EachPart, HolePart, NoParts, NonePart, OnePart, PartView, Parts, TextPart, Values, items_of, text_of}
use Rattle.template.specs.Shown.{shown}

-- the reader after bytes that are data: more of a text, or of the value of an attribute
abbrev pub with_data : Reading → List ℕ → Reading
with_data (Content p) bytes = Content (record p { trees = fold with_byte p.trees bytes })
with_data (Value t name value) bytes = Value t name (value ++ bytes)
with_data _ bytes = Refused

-- the first reader if there are no items
abbrev pub reader_if_none : List Values → Reading → Reading → Reading
reader_if_none [] r s = r
reader_if_none (i ∷ is) r s = s

unfoldable mutual
  -- the reader after a part: the texts of the template are read, and each value is data
  pub read_part : PartView → Values → Reading → Reading
  read_part (TextPart text) vs r = fold step r text
  read_part (HolePart kind name) vs r = with_data r (shown (text_of name vs))
  read_part (EachPart name ps) vs r = fold (λ s item. read_parts ps item s) r (items_of name vs)
  read_part (NonePart name ps) vs r = reader_if_none (items_of name vs) (read_parts ps vs r) r

  -- the reader after parts
  pub read_parts : Parts → Values → Reading → Reading
  read_parts NoParts vs r = r
  read_parts (OnePart p ps) vs r = read_parts ps vs (read_part p vs r)

-- the trees that were read, if all elements are closed
abbrev pub closed_trees : List TreeView → List Open → Option Trees
closed_trees trees [] = Some (in_order trees NoTrees)
closed_trees trees (o ∷ around) = None

-- the trees that a reader has read at the end of a text
abbrev pub trees_at : Reading → Option Trees
trees_at (Content p) = closed_trees p.trees p.around
trees_at _ = None

-- the trees of a text, if the reader reads it
unfoldable pub read_trees : List ℕ → Option Trees
read_trees text = trees_at (fold step at_start text)

-- the trees of a template, with the values as data
unfoldable pub filled_trees : Parts → Values → Option Trees
filled_trees ps vs = trees_at (read_parts ps vs at_start)
