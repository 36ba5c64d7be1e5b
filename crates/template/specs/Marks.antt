-- What Markdown can read as its own: lines, cells and tags end at marks.
use Rattle.std.specs.Prelude.{◌&&◌, ◌||◌, ◌==◌, ◌++◌, ◌∷◌, [], ℕ, Bool, true, false, not, List, codes, if◌then◌else◌, map}
use Rattle.std.specs.List.{fold}
use Rattle.std.specs.Str.{bytes_eq}
use Rattle.template.specs.Hole.{is_special}
use Rattle.template.specs.Reader.{is_letter}
use Rattle.template.specs.Template.{EachPart, HolePart, NoParts, NonePart, OnePart, PartView, Parts, TextPart, Values, parts_text}
use Rattle.template.specs.declared.hole.Hole.{Hole}
use Rattle.template.specs.declared.hole.Hole.TheVariants as hole

-- the state of a reader of Markdown: outside of `<pre>`, in a reference there and in a tag there, of which this is read; in `<pre>` and in a tag there
pub data Marking : Type 0 where
  Outside : Marking
  Reference : Marking
  Tag : List ℕ → Marking
  InPre : Marking
  TagInPre : List ℕ → Marking

-- a tag begins with this: a comment, which can have `>` in it, does not
abbrev pub is_tag : List ℕ → Bool
is_tag [] = false
is_tag (c ∷ name) = c == 47 || is_letter c

-- the state after one more byte
abbrev pub mark_step : Marking → ℕ → Marking
mark_step Outside c = if c == 38 then Reference else if c == 60 then Tag [] else Outside
mark_step Reference c = if c == 59 then Outside else Reference
mark_step (Tag name) c =
    if c == 62 && is_tag name then (if bytes_eq name (codes "pre") then InPre else Outside) else Tag (name ++ (c ∷ []))
mark_step InPre c = if c == 60 then TagInPre [] else InPre
mark_step (TagInPre name) c = if c == 62 then (if bytes_eq name (codes "/pre") then Outside else InPre) else TagInPre (name ++ (c ∷ []))

-- a byte is a mark after this one: a line feed or special punctuation of ASCII outside of `<pre>` and of references, and each byte of a tag
abbrev pub is_mark : Marking → ℕ → ℕ → Bool
is_mark Outside before c = c == 10 || (is_special before c && not (c == 38))
is_mark Reference before c = false
is_mark (Tag name) before c = true
is_mark InPre before c = c == 60
is_mark (TagInPre name) before c = true

-- the marks of a text from a state on, after this byte
abbrev pub marks_from : Marking → ℕ → List ℕ → List ℕ
marks_from s before [] = []
marks_from s before (c ∷ text) = (if is_mark s before c then c ∷ [] else []) ++ marks_from (mark_step s c) c text

-- the marks of a text
unfoldable pub marks : List ℕ → List ℕ
marks text = marks_from Outside 10 text

abbrev mutual
  -- a part without its holes
  pub without_hole : PartView → PartView
  without_hole (TextPart text) = TextPart text
  without_hole (HolePart kind name) = TextPart []
  without_hole (EachPart name ps) = EachPart name (without_holes ps)
  without_hole (NonePart name ps) = NonePart name (without_holes ps)

  -- parts without their holes
  pub without_holes : Parts → Parts
  without_holes NoParts = NoParts
  without_holes (OnePart p ps) = OnePart (without_hole p) (without_holes ps)

-- the marks of the template's own texts: those of each section once for each item, and none of values
unfoldable pub own_marks : Parts → Values → List ℕ
own_marks ps vs = marks (parts_text (without_holes ps) vs)

-- a value of this kind is without marks here
abbrev pub is_place : Hole → Marking → Bool
is_place hole.Plain Outside = true
is_place hole.Text InPre = true
is_place _ _ = false

-- both are outside of `<pre>`, or both are in it, and neither is in a tag or a reference
abbrev pub same_marking : Marking → Marking → Bool
same_marking Outside Outside = true
same_marking InPre InPre = true
same_marking _ _ = false

-- the state after the template's own text of a part. A section ends in the state in which it begins
abbrev pub marking_after : Marking → PartView → Marking
marking_after s (TextPart text) = fold mark_step s text
marking_after s (HolePart kind name) = s
marking_after s (EachPart name ps) = s
marking_after s (NonePart name ps) = s

-- the state after the template's own texts
abbrev pub marking_after_all : Marking → Parts → Marking
marking_after_all s NoParts = s
marking_after_all s (OnePart p ps) = marking_after_all (marking_after s p) ps

-- the first byte is a mark or none whatever is before it: it is no `_`, `/` or point
abbrev pub begins_alone : List ℕ → Bool
begins_alone [] = true
begins_alone (c ∷ text) = not (c == 46 || (c == 47 || c == 95))

abbrev mutual
  -- each hole of a part is in its place, each own text begins alone, and each section ends in the state in which it begins
  pub is_placed : Marking → PartView → Bool
  is_placed s (TextPart text) = begins_alone text
  is_placed s (HolePart kind name) = is_place kind s
  is_placed s (EachPart name ps) = are_placed s ps && same_marking (marking_after_all s ps) s
  is_placed s (NonePart name ps) = are_placed s ps && same_marking (marking_after_all s ps) s

  -- the same of parts
  pub are_placed : Marking → Parts → Bool
  are_placed s NoParts = true
  are_placed s (OnePart p ps) = is_placed s p && are_placed (marking_after s p) ps

-- the pieces of a part: a text byte by byte, and anything else as it is
abbrev pub part_pieces : PartView → List PartView
part_pieces (TextPart text) = map (λ b. TextPart (b ∷ [])) text
part_pieces p = p ∷ []

-- the pieces of parts
abbrev pub pieces : Parts → List PartView
pieces NoParts = []
pieces (OnePart p ps) = part_pieces p ++ pieces ps

-- a piece is this byte
abbrev pub is_byte : ℕ → PartView → Bool
is_byte b (TextPart text) = bytes_eq text (b ∷ [])
is_byte b _ = false

-- a piece is a line feed
abbrev pub is_feed : PartView → Bool
is_feed p = is_byte 10 p

-- the first pieces are the bytes of a text
abbrev pub begin_with : List PartView → List ℕ → Bool
begin_with ps [] = true
begin_with [] (b ∷ text) = false
begin_with (p ∷ ps) (b ∷ text) = is_byte b p && begin_with ps text

-- each `<pre>` among pieces, of which the first ones come after these two, is after two line feeds
abbrev pub pre_after_feeds : PartView → PartView → List PartView → Bool
pre_after_feeds p q [] = true
pre_after_feeds p q (r ∷ ps) =
    (not (begin_with (r ∷ ps) (codes "<pre>")) || (is_feed p && is_feed q)) && pre_after_feeds q r ps

-- each `<pre>` of a list of pieces is after two line feeds
abbrev pub begins_pre : List PartView → Bool
begins_pre ps = pre_after_feeds (TextPart []) (TextPart []) ps

abbrev mutual
  -- each `<pre>` in a section begins a line, after an empty line in this section
  pub part_begins_pre : PartView → Bool
  part_begins_pre (EachPart name ps) = begins_pre (pieces ps) && parts_begin_pre ps
  part_begins_pre (NonePart name ps) = begins_pre (pieces ps) && parts_begin_pre ps
  part_begins_pre _ = true

  -- the same of each section among parts
  pub parts_begin_pre : Parts → Bool
  parts_begin_pre NoParts = true
  parts_begin_pre (OnePart p ps) = part_begins_pre p && parts_begin_pre ps

-- each `Plain` hole is outside of `<pre>`, each `Text` hole is in it, there is no `Attribute` hole, and the end is outside. Each `<pre>` begins a
-- line, after an empty line
unfoldable pub is_markdown : Parts → Bool
is_markdown ps = are_placed Outside ps && (same_marking (marking_after_all Outside ps) Outside && (begins_pre (pieces ps) && parts_begin_pre ps))
