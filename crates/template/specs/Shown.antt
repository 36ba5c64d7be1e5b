-- How the characters of a value are shown.
use Rattle.std.specs.Prelude.{ℕ, Bool, false, not, ◌&&◌, ◌||◌, ◌==◌, List, ◌++◌, codes, nat_le, nat_lt, if◌then◌else◌}
use Rattle.std.specs.Char.{encode_utf8, is_control}
use Rattle.std.specs.Fmt.{digits}
use Rattle.std.specs.List.{flat_map, list_all}
use Rattle.std.specs.Str.{bytes_eq, chars, encode_utf8_all}

-- the character is in a range
abbrev pub is_within : ℕ → ℕ → ℕ → Bool
is_within low high c = nat_le low c && nat_le c high

-- the character changes the direction of writing
abbrev pub turns_writing : ℕ → Bool
turns_writing c = c == 1564 || (c == 8206 || (c == 8207 || (is_within 8234 8238 c || is_within 8294 8297 c)))

-- a character that is shown as an escape: a control character except tab and line feed, or a character that changes the direction of writing
abbrev pub is_escaped : ℕ → Bool
is_escaped c = not (c == 9) && (not (c == 10) && (turns_writing c || is_control c))

-- the escape of a character, such as `\u{1b}`
unfoldable pub escape : ℕ → List ℕ
escape c = codes "\\u{" ++ (digits 16 false c ++ codes "}")

-- a character that XML allows: U+FFFD replaces U+FFFE and U+FFFF
abbrev pub allowed : ℕ → ℕ
allowed c = if c == 65534 || c == 65535 then 65533 else c

-- a character as it is shown
abbrev pub shown_char : ℕ → List ℕ
shown_char c = if is_escaped c then escape c else encode_utf8 (allowed c)

-- a text as it is shown
unfoldable pub shown : List ℕ → List ℕ
shown text = flat_map shown_char (chars text)

-- the text is UTF-8, and all of its characters pass a test
abbrev pub is_text_of : (ℕ → Bool) → List ℕ → Bool
is_text_of test text = bytes_eq (encode_utf8_all (chars text)) text && list_all test (chars text)

-- a character that XML has no place for: a control character except tab, line feed and carriage return, U+FFFE and U+FFFF
abbrev pub is_refused : ℕ → Bool
is_refused c = (nat_lt c 32 && not (c == 9 || (c == 10 || c == 13))) || (c == 65534 || c == 65535)

-- a character that XML has a place for
abbrev pub is_xml_char : ℕ → Bool
is_xml_char c = not (is_refused c)
