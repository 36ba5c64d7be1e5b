-- Laws of all templates and all values.
use Rattle.std.specs.Prelude.{◌≡◌, ℕ, true, List, Some}
use Rattle.std.specs.List.{All}
use Rattle.template.specs.Check.{is_sound}
use Rattle.template.specs.Clean.{HasNoControls, is_clean}
use Rattle.template.specs.Document.{filled_tree, is_document}
use Rattle.template.specs.Filled.{filled_trees, read_trees}
use Rattle.template.specs.Hole.{hole_text}
use Rattle.template.specs.Marks.{is_markdown, marks, own_marks}
use Rattle.template.specs.Reader.{read_tree}
use Rattle.template.specs.Shows.{HasPart, items_at, parts_show}
use Rattle.template.specs.Template.{Parts, Values, parts_text, text_of}
use Rattle.template.specs.Tree.{TreeView, Trees}
use Rattle.template.specs.declared.hole.Hole.{Hole}

-- What is rendered of any values has no control characters, if the template has none.
abbrev pub RendersNoControls : Type 0
RendersNoControls = (ps : Parts) (vs : Values) → is_clean ps ≡ true → HasNoControls (parts_text ps vs)

-- The reader reads what a sound template renders, and its trees are those of the template with the values as data.
abbrev pub NoValueIsMarkup : Type 0
NoValueIsMarkup = (ps : Parts) (vs : Values) → is_sound ps ≡ true
    → (trees : Trees) × (read_trees (parts_text ps vs) ≡ Some trees) × (filled_trees ps vs ≡ Some trees)

-- What is rendered of a template that is one element is one tree, and this is the tree of the template with the values as data.
abbrev pub RendersOneTree : Type 0
RendersOneTree = (ps : Parts) (vs : Values) → is_document ps ≡ true
    → (t : TreeView) × (read_tree (parts_text ps vs) ≡ Some t) × (filled_tree ps vs ≡ Some t)

-- If a template has a hole for the text with this name of each item on a path, all of these texts are in what it renders.
abbrev pub ShowsValues : Type 0
ShowsValues = (ps : Parts) (vs : Values) (kind : Hole) (path : List (List ℕ)) (name : List ℕ) → parts_show ps kind path name ≡ true
    → All (λ i. HasPart (parts_text ps vs) (hole_text kind (text_of name i))) (items_at path vs)

-- What is rendered has the marks of the template and no others: a line, a cell and a `<pre>` end where the template ends them, whatever the values are.
abbrev pub NoValueIsMark : Type 0
NoValueIsMark = (ps : Parts) (vs : Values) → is_markdown ps ≡ true → marks (parts_text ps vs) ≡ own_marks ps vs
