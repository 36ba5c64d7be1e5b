-- Whether a template is one element, with its end tag at the end.
use Rattle.std.specs.Prelude.{◌&&◌, ◌++◌, ℕ, Bool, true, false, List, [], ◌∷◌, codes, Option}
use Rattle.std.specs.Str.{bytes_eq}
use Rattle.template.specs.Check.{after_part, at_start, has_open, part_passes}
use Rattle.template.specs.Clean.{is_of}
use Rattle.template.specs.Filled.{read_parts}
use Rattle.template.specs.Reader.{Content, Open, Reading, Reference, Refused, whole}
use Rattle.template.specs.Shown.{is_xml_char}
use Rattle.template.specs.Template.{NoParts, OnePart, PartView, Parts, TextPart, Values}
use Rattle.template.specs.Tree.{TreeView}

-- the reader is in a tag or in an element
abbrev pub inside : Reading → Bool
inside (Content p) = has_open p.around
inside (Reference p name) = has_open p.around
inside Refused = false
inside _ = true

-- an end tag
abbrev pub end_tag : List ℕ → List ℕ
end_tag name = codes "</" ++ (name ++ codes ">")

-- a text is the end tag of the only open element
abbrev pub ends_only : List Open → List ℕ → Bool
ends_only [] text = false
ends_only (o ∷ []) text = bytes_eq (end_tag o.name) text
ends_only (o ∷ p ∷ os) text = false

-- a part is the end tag of the only open element
abbrev pub is_last_tag : PartView → Reading → Bool
is_last_tag (TextPart text) (Content p) = ends_only p.around text
is_last_tag _ _ = false

-- the last part is the end tag of the only open element, and the reader is inside after each byte before it
abbrev pub ends_document : Parts → Reading → Bool
ends_document NoParts r = false
ends_document (OnePart p NoParts) r = is_last_tag p r
ends_document (OnePart p (OnePart q ps)) r = part_passes inside p r && ends_document (OnePart q ps) (after_part p r)

-- the template is one element, and XML has a place for each of its characters
unfoldable pub is_document : Parts → Bool
is_document ps = is_of is_xml_char ps && ends_document ps at_start

-- the tree of a template, with the values as data
unfoldable pub filled_tree : Parts → Values → Option TreeView
filled_tree ps vs = whole (read_parts ps vs at_start)
