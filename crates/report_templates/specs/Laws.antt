-- What is rendered of each template, whatever the values are.
use Rattle.std.specs.Prelude.{◌≡◌, ℕ, List, Some}
use Rattle.report_templates.specs.Sound.{junit_parts, page_parts, summary_parts}
use Rattle.template.specs.Clean.{HasNoControls}
use Rattle.template.specs.Document.{filled_tree}
use Rattle.template.specs.Marks.{marks, own_marks}
use Rattle.template.specs.Reader.{read_tree}
use Rattle.template.specs.Template.{Parts, Values, parts_text}
use Rattle.template.specs.Tree.{TreeView}

-- A text is one document: a reader of XML finds one tree, and this is the tree of the template with the values as data. It has no control characters.
pub record IsOneDocument (ps : Parts) (vs : Values) (text : List ℕ) : Type 0 where
  pub tree : TreeView
  pub read : read_tree text ≡ Some tree
  pub filled : filled_tree ps vs ≡ Some tree
  pub clean : HasNoControls text

-- The marks of a text of Markdown are those of the template: it has none of a value. It has no control characters.
pub record KeepsItsMarks (ps : Parts) (vs : Values) (text : List ℕ) : Type 0 where
  pub own : marks text ≡ own_marks ps vs
  pub clean : HasNoControls text

-- The page is one document.
abbrev pub PageIsOneDocument : Type 0
PageIsOneDocument = (vs : Values) → IsOneDocument page_parts vs (parts_text page_parts vs)

-- The XML of JUnit is one document.
abbrev pub JunitIsOneDocument : Type 0
JunitIsOneDocument = (vs : Values) → IsOneDocument junit_parts vs (parts_text junit_parts vs)

-- The summary has no marks except its own.
abbrev pub SummaryKeepsItsMarks : Type 0
SummaryKeepsItsMarks = (vs : Values) → KeepsItsMarks summary_parts vs (parts_text summary_parts vs)
