-- What is written of a text of any origin.
use Rattle.std.specs.Prelude.{◌≡◌, ◌&&◌, ◌||◌, ◌==◌, ℕ, Bool, true, false, not, List, [], ◌∷◌, ◌++◌, nat_lt, zero, suc, if◌then◌else◌}
use Rattle.report_text.specs.Line.{escape, front_run, is_colon, is_hashes, is_hidden, is_shown, is_within, line_after, line_inside, mark_run}
use Rattle.report_text.specs.Sequence.{style_len, visible}
use Rattle.report_text.specs.declared.line.Front.{Front}
use Rattle.report_text.specs.declared.line.Front.TheVariants.{White, Colon, Inside, Command}
use Rattle.report_text.specs.declared.line.Line.{Line}
use Rattle.report_text.specs.declared.line.Mark.{Mark}
use Rattle.report_text.specs.declared.line.Mark.TheVariants.{Nothing, Hash, Hashes, Marker}
use Rattle.report_text.specs.declared.shown.Rules.{Rules}

-- a text to which more is appended, unless memory ran out
pub record Noted : Type 0 where
  pub text : List ℕ
  pub failed : Bool

-- what a `ReportText` is to its callers. After memory ran out, the text is empty
pub record Report : Type 0 where
  pub text : List ℕ
  pub failed : Bool
  pub for_terminal : Bool

-- unless memory ran out, now or before, this was appended
abbrev pub Adds : Noted → Noted → List ℕ → Type 0
Adds old new added = new.failed ≡ false → (old.failed ≡ false) × (new.text ≡ old.text ++ added)

-- a call appends this to a report, unless memory ran out, now or before. For what the report is made stays
pub record Appends (old new : Report) (added : List ℕ) : Type 0 where
  pub same_terminal : new.for_terminal ≡ old.for_terminal
  pub text : new.failed ≡ false → (old.failed ≡ false) × (new.text ≡ old.text ++ added)

-- a character is written as an escape. In a text of one line these are tab and line feed, too
abbrev pub escapes : Bool → Line → ℕ → Bool
escapes one_line l c =
    (one_line && (c == 9 || c == 10)) || (is_hidden c || ((is_colon l.front && c == 58) || (is_hashes l.mark && c == 91)))

-- a character after a line, as it is written, and the line after it
abbrev pub written : Rules → Line → ℕ → List ℕ
written r l c = if escapes r.one_line l c then escape c else c ∷ []

-- what is known after a character as it is written
abbrev pub next : Rules → Line → ℕ → Line
next r l c = if escapes r.one_line l c then line_inside else line_after r.for_terminal l c

-- the number of characters after ESC of a text's own sequence that is written as it is, or 0
abbrev pub kept_len : Rules → ℕ → List ℕ → ℕ
kept_len r c cs = if r.keeps_colours && c == 27 then style_len cs else 0

-- what is written of a text. Its first `kept` characters are of a sequence of its own
abbrev pub pushed : Rules → Line → ℕ → List ℕ → List ℕ
pushed r l kept [] = []
pushed r l zero (c ∷ cs) =
    if nat_lt 0 (kept_len r c cs) then c ∷ pushed r l (kept_len r c cs) cs else written r l c ++ pushed r (next r l c) zero cs
pushed r l (suc kept) (c ∷ cs) = c ∷ pushed r l kept cs

-- the line after it
abbrev pub ends : Rules → Line → ℕ → List ℕ → Line
ends r l kept [] = l
ends r l zero (c ∷ cs) = if nat_lt 0 (kept_len r c cs) then ends r l (kept_len r c cs) cs else ends r (next r l c) zero cs
ends r l (suc kept) (c ∷ cs) = ends r l kept cs

-- a sequence of its own is in the text
abbrev pub has_kept : Rules → List ℕ → Bool
has_kept r [] = false
has_kept r (c ∷ cs) = nat_lt 0 (kept_len r c cs) || has_kept r cs

-- the line after a text
abbrev pub line_of : Bool → List ℕ → Line
line_of terminal text = record {
  front = front_run terminal White (visible text);
  mark = mark_run terminal Nothing (visible text);
}

-- the rules by which a report writes a text: in one line or in several, with its own colours or without
abbrev pub rules : Report → Bool → Bool → Rules
rules report one_line colours = record { for_terminal = report.for_terminal; one_line = one_line; keeps_colours = colours }

-- what is appended of a text to a report
abbrev pub shown : Report → Bool → Bool → List ℕ → List ℕ
shown report one_line colours text = pushed (rules report one_line colours) (line_of report.for_terminal report.text) 0 text

-- a byte that is written as it is, with any others of these, in a line that has begun and not after a number sign
abbrev pub is_plain : ℕ → Bool
is_plain b = is_within 32 34 b || is_within 36 126 b

-- nothing of a marker is at the end
abbrev pub is_nothing : Mark → Bool
is_nothing Nothing = true
is_nothing Hash = false
is_nothing Hashes = false
is_nothing Marker = false

-- after this byte, what is in the line is as before it
abbrev pub is_still : Front → ℕ → Bool
is_still White b = b == 32
is_still Colon b = false
is_still Inside b = is_plain b
is_still Command b = false

-- a byte that is written as it is, and after which the line is as before it
abbrev pub stays : Line → ℕ → Bool
stays l b = is_nothing l.mark && is_still l.front b

-- a character that is written as it is after any text
abbrev pub is_free : Bool → ℕ → Bool
is_free one_line c = is_shown c && (not (one_line && (c == 9 || c == 10)) && (not (c == 58) && not (c == 91)))
