-- What looking back needs to know of a text, and which characters are escaped. A text is here the list of its characters.
use Rattle.std.specs.Prelude.{◌&&◌, ◌||◌, ◌==◌, ℕ, Bool, true, false, not, List, [], ◌∷◌, ◌++◌, codes, nat_le, if◌then◌else◌}
use Rattle.std.specs.Char.{is_control, is_whitespace}
use Rattle.std.specs.Fmt.{digits}
use Rattle.report_text.specs.declared.line.Front.{Front}
use Rattle.report_text.specs.declared.line.Front.TheVariants.{White, Colon, Inside, Command}
use Rattle.report_text.specs.declared.line.Line.{Line}
use Rattle.report_text.specs.declared.line.Mark.{Mark}
use Rattle.report_text.specs.declared.line.Mark.TheVariants.{Nothing, Hash, Hashes, Marker}

-- a number is between two others, or equal to one of them
abbrev pub is_within : ℕ → ℕ → ℕ → Bool
is_within low high c = nat_le low c && nat_le c high

-- the character changes the direction of writing
abbrev pub turns_writing : ℕ → Bool
turns_writing c = c == 1564 || (c == 8206 || (c == 8207 || (is_within 8234 8238 c || is_within 8294 8297 c)))

-- a control character except tab and line feed, or a character that changes the direction of writing
abbrev pub is_hidden : ℕ → Bool
is_hidden c = not (c == 9) && (not (c == 10) && (turns_writing c || is_control c))

-- the character is shown as it is
abbrev pub is_shown : ℕ → Bool
is_shown c = not (is_hidden c)

-- a shown character that is no tab or line feed
abbrev pub is_inline : ℕ → Bool
is_inline c = is_shown c && not (c == 9 || c == 10)

-- the escape of a character, such as `\u{1b}`
unfoldable pub escape : ℕ → List ℕ
escape c = codes "\\u{" ++ (digits 16 false c ++ codes "}")

-- what is in a line, after one more character that does not end it: white space, white space and a colon, white space
-- and two colons (`Command`), or anything else (`Inside`). No colon matters on a terminal
abbrev pub front_within : Bool → Front → ℕ → Front
front_within terminal White c = if is_whitespace c then White else (if c == 58 && not terminal then Colon else Inside)
front_within terminal Colon c = if c == 58 then Command else Inside
front_within terminal Inside c = Inside
front_within terminal Command c = Command

-- what is in a line, after one more character, which may end it
abbrev pub front_after : Bool → Front → ℕ → Front
front_after terminal s c = if c == 10 then White else front_within terminal s c

-- what is in the last line, after more characters
abbrev pub front_run : Bool → Front → List ℕ → Front
front_run terminal s [] = s
front_run terminal s (c ∷ cs) = front_run terminal (front_after terminal s c) cs

-- a letter of ASCII
abbrev pub is_letter : ℕ → Bool
is_letter c = is_within 65 90 c || is_within 97 122 c

-- what is at the end of a text: one number sign; two or more, and letters (`Hashes`); or anything else. `Marker`: these
-- and a bracket are somewhere in the text. No number sign matters on a terminal
abbrev pub mark_after : Bool → Mark → ℕ → Mark
mark_after terminal Nothing c = if c == 35 && not terminal then Hash else Nothing
mark_after terminal Hash c = if c == 35 then Hashes else Nothing
mark_after terminal Hashes c = if c == 91 then Marker else (if c == 35 || is_letter c then Hashes else Nothing)
mark_after terminal Marker c = Marker

-- what is at the end of a text, after more characters
abbrev pub mark_run : Bool → Mark → List ℕ → Mark
mark_run terminal s [] = s
mark_run terminal s (c ∷ cs) = mark_run terminal (mark_after terminal s c) cs

-- what is known of a text, after one more character
abbrev pub line_after : Bool → Line → ℕ → Line
line_after terminal l c = record { front = front_after terminal l.front c; mark = mark_after terminal l.mark c }

-- at the start of a line, or after an escape
abbrev pub line_start : Line
line_start = record { front = White; mark = Nothing }

-- in a line that has begun, not after a number sign
abbrev pub line_inside : Line
line_inside = record { front = Inside; mark = Nothing }

-- the line is white space and a colon
abbrev pub is_colon : Front → Bool
is_colon White = false
is_colon Colon = true
is_colon Inside = false
is_colon Command = false

-- the line begins with white space and two colons
abbrev pub is_command : Front → Bool
is_command White = false
is_command Colon = false
is_command Inside = false
is_command Command = true

-- two or more number signs, and letters, are at the end
abbrev pub is_hashes : Mark → Bool
is_hashes Nothing = false
is_hashes Hash = false
is_hashes Hashes = true
is_hashes Marker = false

-- number signs, letters and a bracket are somewhere in the text
abbrev pub is_marker : Mark → Bool
is_marker Nothing = false
is_marker Hash = false
is_marker Hashes = false
is_marker Marker = true

-- the last character is a line feed. `ended` is so of the characters before
abbrev pub ends_line : Bool → List ℕ → Bool
ends_line ended [] = ended
ends_line ended (c ∷ cs) = ends_line (c == 10) cs

-- a text that is empty or ends in a line feed, so that a line begins after it
abbrev pub starts_line : List ℕ → Bool
starts_line text = ends_line true text

-- what ends a line that has begun, after a text
abbrev pub line_end : Front → List ℕ → List ℕ
line_end White text = if starts_line text then [] else 10 ∷ []
line_end Colon text = 10 ∷ []
line_end Inside text = 10 ∷ []
line_end Command text = 10 ∷ []
