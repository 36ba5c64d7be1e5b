-- The parts of a template's text: `{{name}}` and `{{*name}}` are holes, `{{#name}}` and `{{^name}}` begin a section, and `{{/name}}` ends it.
use Rattle.std.specs.Prelude.{ℕ, Bool, ◌==◌, ◌||◌, true, false, List, [], ◌∷◌, ◌++◌, codes, if◌then◌else◌, map, reverse, Option, Some, None, string_bytes, unwrap_or}
use Rattle.std.specs.Char.{encode_utf8}
use Rattle.std.specs.List.{fold}
use Rattle.std.specs.Str.{bytes_eq, chars}
use Rattle.template.specs.Template.{EachPart, HolePart, NoParts, NonePart, PartView, Parts, TextPart, part_view, parts_of}
use Rattle.template.specs.declared.hole.Hole.{Hole}
use Rattle.template.specs.declared.hole.Hole.TheVariants as hole
use Rattle.template.specs.declared.parse.Kind.{Kind}
use Rattle.template.specs.declared.parse.Kind.TheVariants as kind
use Rattle.template.specs.declared.parse.Parsed.{Parsed}
use Rattle.template.specs.declared.parse.Parsing.{Parsing}
use Rattle.template.specs.declared.parse.Parsing.TheVariants as parsing
use Rattle.template.specs.declared.parse.Section.{Section}

-- a section that is not over: whether it is for each item, its name, and the parts before it
pub record SectionView : Type 0 where
  pub for_each : Bool
  pub name : List ℕ
  pub before : List PartView

-- what was parsed: the sections that are not over, the innermost first, the parts of the innermost one, and whether the text is in a tag
pub record ParsedView : Type 0 where
  pub sections : List SectionView
  pub parts : List PartView
  pub in_tag : Bool

-- the state of the parser: in a text; after one brace; after two; in a name; after one brace at the end of a name; at something else
pub data ParsingView : Type 0 where
  InText : ParsedView → List ℕ → ParsingView
  OneBrace : ParsedView → List ℕ → ParsingView
  TwoBraces : ParsedView → ParsingView
  InName : ParsedView → Kind → List ℕ → ParsingView
  NameEnd : ParsedView → Kind → List ℕ → ParsingView
  Bad : ParsingView

-- one more part
abbrev pub with_part : ParsedView → PartView → ParsedView
with_part p part = record p { parts = p.parts ++ (part ∷ []) }

-- one more text, unless it is empty
abbrev pub with_text : ParsedView → List ℕ → ParsedView
with_text p [] = p
with_text p (b ∷ text) = with_part p (TextPart (b ∷ text))

-- a section begins
abbrev pub with_section : ParsedView → Bool → List ℕ → ParsedView
with_section p for_each name = record p { sections = record { for_each = for_each; name = name; before = p.parts } ∷ p.sections; parts = [] }

-- the part of a section
abbrev pub section_part : Bool → List ℕ → List PartView → PartView
section_part for_each name parts = if for_each then EachPart name (parts_of parts) else NonePart name (parts_of parts)

-- a section ends
abbrev pub close : ParsedView → List SectionView → List ℕ → ParsingView
close p [] name = Bad
close p (s ∷ ss) name =
    if bytes_eq s.name name
    then InText (record p { sections = ss; parts = s.before ++ (section_part s.for_each s.name p.parts ∷ []) }) []
    else Bad

-- the kind of a hole in a tag, or between tags
abbrev pub kind_at : Bool → Hole
kind_at in_tag = if in_tag then hole.Attribute else hole.Text

-- after a name
abbrev pub on_name : ParsedView → Kind → List ℕ → ParsingView
on_name p kind.Value name = InText (with_part p (HolePart (kind_at p.in_tag) name)) []
on_name p kind.Plain name = InText (with_part p (HolePart hole.Plain name)) []
on_name p kind.Each name = InText (with_section p true name) []
on_name p kind.Otherwise name = InText (with_section p false name) []
on_name p kind.End name = close p p.sections name

-- whether the text is in a tag after a character
abbrev pub in_tag_after : Bool → ℕ → Bool
in_tag_after in_tag c = if c == 60 then true else if c == 62 then false else in_tag

-- a text after which a line ends is a part of its own, so that no text is long
abbrev pub end_line : ParsedView → List ℕ → ℕ → ParsingView
end_line p text c = if c == 10 then InText (with_text p text) [] else InText p text

-- one more character of a text
abbrev pub more_text : ParsedView → List ℕ → ℕ → ParsingView
more_text p text c = end_line (record p { in_tag = in_tag_after p.in_tag c }) (text ++ encode_utf8 c) c

-- the first character after two braces
abbrev pub begin_name : ParsedView → ℕ → ParsingView
begin_name p c =
    if c == 35 then InName p kind.Each []
    else if c == 94 then InName p kind.Otherwise []
    else if c == 47 then InName p kind.End []
    else if c == 42 then InName p kind.Plain []
    else if c == 123 || c == 125 then Bad
    else InName p kind.Value (encode_utf8 c)

-- the state after one more character
abbrev pub parse_step : ParsingView → ℕ → ParsingView
parse_step (InText p text) c = if c == 123 then OneBrace p text else more_text p text c
parse_step (OneBrace p text) c = if c == 123 then TwoBraces (with_text p text) else more_text p (text ++ codes "{") c
parse_step (TwoBraces p) c = begin_name p c
parse_step (InName p k name) c = if c == 125 then NameEnd p k name else InName p k (name ++ encode_utf8 c)
parse_step (NameEnd p k name) c = if c == 125 then on_name p k name else Bad
parse_step Bad c = Bad

-- the parts, if all sections are over
abbrev pub all_over : List SectionView → List PartView → Option Parts
all_over [] parts = Some (parts_of parts)
all_over (s ∷ ss) parts = None

-- the parts at the end
abbrev pub parsed : ParsingView → Option Parts
parsed (InText p text) = all_over p.sections (with_text p text).parts
parsed _ = None

-- the state before a text
abbrev pub start : ParsingView
start = InText (record { sections = []; parts = []; in_tag = false }) []

-- the parts of a text
unfoldable pub parse : List ℕ → Option Parts
parse text = parsed (fold parse_step start (chars text))

-- the parts of a text that is a template, and no parts of another text
abbrev pub template_parts : List ℕ → Parts
template_parts text = unwrap_or (parse text) NoParts

-- a section that is kept
abbrev pub section_view : Section → SectionView
section_view s = record { for_each = s.for_each; name = string_bytes s.name; before = map part_view s.before.items }

-- what is kept
abbrev pub parsed_view : Parsed → ParsedView
parsed_view p = record { sections = reverse (map section_view p.sections.items); parts = map part_view p.parts.items; in_tag = p.in_tag }

-- the state that is kept
abbrev pub parsing_view : Parsing → ParsingView
parsing_view (parsing.InText p text) = InText (parsed_view p) (string_bytes text)
parsing_view (parsing.OneBrace p text) = OneBrace (parsed_view p) (string_bytes text)
parsing_view (parsing.TwoBraces p) = TwoBraces (parsed_view p)
parsing_view (parsing.InName p k name) = InName (parsed_view p) k (string_bytes name)
parsing_view (parsing.NameEnd p k name) = NameEnd (parsed_view p) k (string_bytes name)
parsing_view parsing.Bad = Bad
