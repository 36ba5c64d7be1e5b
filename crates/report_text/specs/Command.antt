-- The commands of GitHub's runner.
use Rattle.std.specs.Prelude.{◌≡◌, ◌&&◌, ◌||◌, ◌==◌, ℕ, Bool, true, false, List, [], ◌∷◌, ◌++◌, codes, if◌then◌else◌}
use Rattle.std.specs.Str.{chars}
use Rattle.report_text.specs.Line.{escape, front_after, is_colon, is_hashes, is_hidden, mark_after}
use Rattle.report_text.specs.declared.command.Kind.{Kind}
use Rattle.report_text.specs.declared.command.Kind.TheVariants.{Error, Warning, Notice}
use Rattle.report_text.specs.declared.command.Property.{Property}
use Rattle.report_text.specs.declared.command.PropertyName.{PropertyName}
use Rattle.report_text.specs.declared.command.PropertyName.TheVariants.{File, Line, Column, Title}
use Rattle.report_text.specs.declared.line.Front.{Front}
use Rattle.report_text.specs.declared.line.Mark.{Mark}
use Rattle.report_text.specs.declared.line.Mark.TheVariants.{Nothing}

-- the rest of the line
abbrev pub line_rest : List ℕ → List ℕ
line_rest [] = []
line_rest (c ∷ cs) = if c == 10 then [] else c ∷ line_rest cs

-- what follows the two colons, of each line that begins with white space and two colons
abbrev pub commands : Front → List ℕ → List (List ℕ)
commands s [] = []
commands s (c ∷ cs) =
    if is_colon s && c == 58 then line_rest cs ∷ commands (front_after false s c) cs else commands (front_after false s c) cs

-- the name of a kind of commands
abbrev pub kind_name : Kind → List ℕ
kind_name Error = codes "error"
kind_name Warning = codes "warning"
kind_name Notice = codes "notice"

-- the name of a property
abbrev pub property_name : PropertyName → List ℕ
property_name File = codes "file"
property_name Line = codes "line"
property_name Column = codes "col"
property_name Title = codes "title"

-- a character of a command is not written as it is
abbrev pub is_encoded : Bool → Mark → ℕ → Bool
is_encoded in_property mark c =
    (c == 37 || (c == 13 || c == 10)) || ((in_property && (c == 58 || c == 44)) || (is_hidden c || (is_hashes mark && c == 91)))

-- what is written in a command for a character that is not written as it is
abbrev pub replacement : ℕ → List ℕ
replacement c =
    if c == 37 then codes "%25" else (if c == 13 then codes "%0D" else (if c == 10 then codes "%0A"
    else (if c == 58 then codes "%3A" else (if c == 44 then codes "%2C" else escape c))))

-- a character in a command, and what is at the end of the text after it
abbrev pub encoded_char : Bool → Mark → ℕ → List ℕ
encoded_char in_property mark c = if is_encoded in_property mark c then replacement c else c ∷ []

-- what is at the end of the text after a character in a command
abbrev pub mark_encoded : Bool → Mark → ℕ → Mark
mark_encoded in_property mark c = if is_encoded in_property mark c then Nothing else mark_after false mark c

-- a property or a message in a command
abbrev pub encoded : Bool → Mark → List ℕ → List ℕ
encoded in_property mark [] = []
encoded in_property mark (c ∷ cs) = encoded_char in_property mark c ++ encoded in_property (mark_encoded in_property mark c) cs

-- a property in a command: its name, `=` and its value
abbrev pub property_text : Property → List ℕ
property_text p = property_name p.name ++ (codes "=" ++ encoded true Nothing (chars p.value.now))

-- properties: a space before the first one, and a comma before each other one
abbrev pub properties_text : Bool → List Property → List ℕ
properties_text first [] = []
properties_text first (p ∷ ps) = (if first then 32 else 44) ∷ (property_text p ++ properties_text false ps)

-- a command after its two colons, of a message
abbrev pub command : Kind → List Property → List ℕ → List ℕ
command kind properties message = kind_name kind ++ (properties_text true properties ++ (codes "::" ++ encoded false Nothing message))

-- the whole line of a command
abbrev pub command_line : Kind → List Property → List ℕ → List ℕ
command_line kind properties message = 58 ∷ 58 ∷ (command kind properties message ++ 10 ∷ [])

-- what a line has after two colons is the name of a command, properties, two colons and a message
pub record IsCommand (line : List ℕ) : Type 0 where
  pub kind : Kind
  pub properties : List ℕ
  pub message : List ℕ
  pub is : line ≡ kind_name kind ++ (properties ++ (codes "::" ++ message))
