-- Prints: lines that are neither events of a harness nor headings or failures of cargo.
use Rattle.std.specs.Prelude.{◌+◌, ◌-◌, ◌++◌, ◌∷◌, [], ℕ, List, drop, filter, if◌then◌else◌, length, map, nat_le, string_bytes}
use Rattle.test_report_run_notes.specs.Texts.{is_blank}
use Rattle.test_report_run.specs.LongestEnd.{cut_to, joined, with_kept}
use Rattle.test_report_run.specs.declared.longest_end.LongestEnd.{LongestEnd}
use Rattle.test_report_run.specs.declared.prints.LastPrint.{LastPrint}
use Rattle.test_report_run.specs.declared.prints.Prints.{Prints}

-- at most 200 bytes of a line
abbrev pub cut : List ℕ → List ℕ
cut line = cut_to 200 line

-- the lines that are kept
abbrev pub lines_of : LongestEnd → List (List ℕ)
lines_of e = map string_bytes e.lines.items

-- a print that is not blank: how many prints came before it, and its first 200 bytes
pub record LastView : Type 0 where
  pub place : ℕ
  pub line : List ℕ

-- prints one after the other: how many there are, the longest end of them that fits, and the last three that are not blank
pub record PrintsView : Type 0 where
  pub count : ℕ
  pub kept : List (List ℕ)
  pub last : List LastView

-- what is kept of a print that is not blank
abbrev pub last_view : LastPrint → LastView
last_view p = record { place = p.place; line = string_bytes p.line }

-- what is kept of prints
abbrev pub prints_view : Prints → PrintsView
prints_view p = record { count = p.count; kept = lines_of p.kept; last = map last_view p.last.items }

-- no print yet
abbrev pub no_prints : PrintsView
no_prints = record { count = 0; kept = []; last = [] }

-- the last three of some prints
abbrev pub last_three : List LastView → List LastView
last_three prints = drop (length prints - 3) prints

-- one more print
abbrev pub with_print : PrintsView → List ℕ → PrintsView
with_print p line = record {
  count = p.count + 1;
  kept = with_kept p.kept line;
  last = if is_blank line then p.last else last_three (p.last ++ record { place = p.count; line = cut line } ∷ []);
}

-- the text of the prints that are kept, from the print on before which `first` others came
abbrev pub text_from : PrintsView → ℕ → List ℕ
text_from p first = joined (drop (first - (p.count - length p.kept)) p.kept)

-- the last three prints that are not blank, of those from that print on
abbrev pub last_from : PrintsView → ℕ → List (List ℕ)
last_from p first = map (λ l. l.line) (filter (λ l. nat_le first l.place) p.last)
