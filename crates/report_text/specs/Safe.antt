-- What is true of every report.
use Rattle.std.specs.Prelude.{◌≡◌, ◌⊎◌, ◌++◌, ◌∷◌, ℕ, Bool, true, false, List, [], codes}
use Rattle.std.specs.Char.{is_whitespace}
use Rattle.std.specs.List.{All, Contains, list_all}
use Rattle.report_text.specs.Command.{IsCommand, commands, line_rest}
use Rattle.report_text.specs.Line.{front_run, is_command, is_marker}
use Rattle.report_text.specs.Sequence.{IsClean, visible}
use Rattle.report_text.specs.Shown.{Report, line_of}
use Rattle.report_text.specs.declared.line.Front.TheVariants.{White}
use Rattle.report_text.specs.declared.line.Line.{Line}

-- the text has this nowhere
abbrev pub Absent : List ℕ → List ℕ → Type 0
Absent word text = (before after : List ℕ) → text ≡ before ++ (word ++ after) → ⊥

-- a text after which a line begins
abbrev pub EndsLine : List ℕ → Type 0
EndsLine before = (before ≡ []) ⊎ ((front : List ℕ) × (before ≡ front ++ 10 ∷ []))

-- each line that begins with `::` after white space is among these
abbrev pub AllAmong : List (List ℕ) → List ℕ → Type 0
AllAmong lines text = (before white after : List ℕ) → EndsLine before → list_all is_whitespace white ≡ true
    → text ≡ before ++ (white ++ 58 ∷ 58 ∷ after) → Contains lines (line_rest after)

-- what a CI system reads in a text without its sequences: no commands but whole ones of GitHub's runner, and no markers
pub record IsQuiet (text : List ℕ) : Type 0 where
  pub all_among : AllAmong (commands White text) text
  pub each : All IsCommand (commands White text)
  pub no_github_marker : Absent (codes "##[") text
  pub no_azure_marker : Absent (codes "##vso[") text
  pub no_teamcity_marker : Absent (codes "##teamcity[") text

-- a text is shown characters, whole sequences that set styles and whole links. Unless it is for a terminal, it is quiet
pub record Safe (for_terminal : Bool) (text : List ℕ) : Type 0 where
  pub clean : IsClean text
  pub quiet : for_terminal ≡ false → IsQuiet (visible text)

-- a change of a report after which its commands are the same
abbrev pub KeepsCommands : Report → Report → Type 0
KeepsCommands old new = new.for_terminal ≡ false → new.failed ≡ false → commands White (visible new.text) ≡ commands White (visible old.text)

-- what is true of the fields of a report
pub record Kept (for_terminal : Bool) (text : List ℕ) (line : Line) : Type 0 where
  pub line_is : line ≡ line_of for_terminal text
  pub no_command : is_command line.front ≡ false
  pub no_marker : is_marker line.mark ≡ false
  pub clean : IsClean text
  pub whole : (more : List ℕ) → visible (text ++ more) ≡ visible text ++ visible more
  pub each : for_terminal ≡ false → All IsCommand (commands White (visible text))

-- the last line of a text without its sequences has white space alone: what comes next is read as at the start of a line
abbrev pub EndsBlank : List ℕ → Type 0
EndsBlank text = front_run false White (visible text) ≡ White

-- texts that are shown one after another are safe as one text
abbrev pub TextsJoin : Type 0
TextsJoin = (for_terminal : Bool) (first second : List ℕ) → Safe for_terminal first → (for_terminal ≡ false → EndsBlank first)
    → Safe for_terminal second → Safe for_terminal (first ++ second)
