-- How values are written in the holes of a template.
use Rattle.std.specs.Prelude.{ℕ, Bool, true, false, not, ◌&&◌, ◌||◌, ◌==◌, List, [], ◌∷◌, ◌++◌, codes, if◌then◌else◌}
use Rattle.std.specs.Char.{encode_utf8, is_ascii_punctuation}
use Rattle.std.specs.Fmt.{decimal, digits}
use Rattle.std.specs.List.{flat_map}
use Rattle.std.specs.Str.{chars}
use Rattle.template.specs.Shown.{is_within, shown}
use Rattle.template.specs.declared.hole.Hole.{Hole}
use Rattle.template.specs.declared.hole.Hole.TheVariants as hole

-- a character in the value of an attribute, or between tags: `other` if it is not a reference
abbrev pub markup_or : Bool → List ℕ → ℕ → List ℕ
markup_or in_value other c =
    if c == 38 then codes "&amp;"
    else if c == 60 then codes "&lt;"
    else if c == 62 then codes "&gt;"
    else if c == 13 then codes "&#13;"
    else if in_value && c == 34 then codes "&quot;"
    else if in_value && c == 9 then codes "&#9;"
    else if in_value && c == 10 then codes "&#10;"
    else other

-- a byte in the value of an attribute, or between tags
abbrev pub markup_byte : Bool → ℕ → List ℕ
markup_byte in_value b = markup_or in_value (b ∷ []) b

-- a text in the value of an attribute, or between tags
unfoldable pub markup : Bool → List ℕ → List ℕ
markup in_value text = flat_map (markup_byte in_value) text

-- a byte that is shown and written as it is
abbrev pub is_kept : Bool → ℕ → Bool
is_kept in_value b =
    if b == 38 || (b == 60 || b == 62) then false
    else if b == 34 || (b == 9 || b == 10) then not in_value
    else is_within 32 126 b

-- a character as a numeric reference
abbrev pub reference : ℕ → List ℕ
reference c = codes "&#" ++ (decimal c ++ codes ";")

-- punctuation of ASCII that is no markup of Markdown, whatever is beside it: `"`, `%`, `'`, `,`, `:`, `;` and `?`. A colon before `/` would begin the
-- address of a link, but after a colon `/` is a reference
abbrev pub is_harmless : ℕ → Bool
is_harmless c = c == 34 || (c == 37 || (c == 39 || (c == 44 || (c == 58 || (c == 59 || c == 63)))))

-- a letter or a digit of ASCII
abbrev pub is_word : ℕ → Bool
is_word c = is_within 48 57 c || (is_within 65 90 c || is_within 97 122 c)

-- a letter of ASCII except `w`: a point after `www` would begin the address of a link, and one after a digit may end the number of an item of a list
abbrev pub is_before_point : ℕ → Bool
is_before_point c = (is_within 65 90 c || is_within 97 122 c) && not (c == 87 || c == 119)

-- punctuation that is no markup of Markdown after this character: `_` and `/` in a word, and a point. After a letter or a digit `_` can only end what
-- another `_` begins, and `/` begins no address, which has a colon before it
abbrev pub is_inner : ℕ → ℕ → Bool
is_inner before c = ((c == 47 || c == 95) && is_word before) || (c == 46 && is_before_point before)

-- other punctuation of ASCII after this character
abbrev pub is_special : ℕ → ℕ → Bool
is_special before c = is_ascii_punctuation c && not (is_harmless c || is_inner before c)

-- a character that can mean something to Markdown after this one: special punctuation, a tab, a line feed, and a space after another one
abbrev pub is_syntax : ℕ → ℕ → Bool
is_syntax before c = is_special before c || (c == 9 || (c == 10 || (c == 32 && before == 32)))

-- a character of Markdown after this one: one that can mean something is a reference
abbrev pub plain_char : ℕ → ℕ → List ℕ
plain_char before c = if is_syntax before c then reference c else encode_utf8 c

-- characters of Markdown, the first of them after this one
abbrev pub plain_chars : ℕ → List ℕ → List ℕ
plain_chars before [] = []
plain_chars before (c ∷ cs) = plain_char before c ++ plain_chars c cs

-- the escape of a character in Markdown
unfoldable pub plain_escape : ℕ → List ℕ
plain_escape c = codes "&#92;u&#123;" ++ (digits 16 false c ++ codes "&#125;")

-- a text of Markdown, in which no character is markup. What is before it does not matter: its first character is as after a space
unfoldable pub plain : List ℕ → List ℕ
plain text = plain_chars 32 (chars text)

-- a value as it is written
unfoldable pub hole_text : Hole → List ℕ → List ℕ
hole_text hole.Text text = markup false (shown text)
hole_text hole.Attribute text = markup true (shown text)
hole_text hole.Plain text = plain (shown text)
