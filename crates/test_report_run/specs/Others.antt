-- The lines of a file that are no events of a harness: prints, headings, and failures of cargo.
use Rattle.std.specs.Prelude.{◌==◌, ◌+◌, ◌++◌, ◌∷◌, [], ℕ, List, Bool, codes, if◌then◌else◌, length, map, slice_get, slice_index_or, string_bytes, Option, Some, None, option_and_then}
use Rattle.std.specs.Str.{bytes_eq}
use Rattle.test_report_events.specs.Time.{without_spaces}
use Rattle.test_report_run_notes.specs.Note.{text_view}
use Rattle.test_report_run.specs.Prints.{PrintsView, cut, last_from, no_prints, prints_view, text_from, with_print}
use Rattle.test_report_run.specs.declared.others.EventPlace.{EventPlace}
use Rattle.test_report_run.specs.declared.others.Others.{Others}
use Rattle.test_report_run.specs.declared.others.PrintPlace.{PrintPlace}
use Rattle.test_report_run.specs.declared.others.Cause.{Cause}
use Rattle.test_report_run.specs.declared.others.Stage.{Stage}
use Rattle.test_report_run.specs.declared.others.Stage.TheVariants as stage
use Rattle.test_report_run.specs.declared.others.Stage.TheVariants.{Over, Failed, CausedBy}

-- a cause that cargo named: how many headings came before it, and at most 200 bytes of its line, which follows the first `Caused by:` after a failure
pub record CauseView : Type 0 where
  pub headings : ℕ
  pub line : List ℕ

-- what is kept of these lines
pub record OthersView : Type 0 where
  -- the prints before the first heading or failure, and between two of them; and those after the last one
  pub past : List PrintsView
  pub prints : PrintsView
  -- how many headings came, and the causes that cargo named of its failures
  pub headings : ℕ
  pub causes : List CauseView
  -- at most 200 bytes of the plain text of the cause of the last failure, and how far the search for it is
  pub last_cause : Option (List ℕ)
  pub stage : Stage

-- a cause
abbrev pub cause_view : Cause → CauseView
cause_view c = record { headings = c.headings; line = string_bytes c.line }

-- what is kept
abbrev pub others_view : Others → OthersView
others_view o = record {
  past = map prints_view o.past.items;
  prints = prints_view o.prints;
  headings = o.headings;
  causes = map cause_view o.causes.items;
  last_cause = text_view o.last_cause;
  stage = o.stage;
}

-- no line yet
abbrev pub no_others : OthersView
no_others = record { past = []; prints = no_prints; headings = 0; causes = []; last_cause = None; stage = stage.Over }

-- the line is `Caused by:`, perhaps after spaces
abbrev pub says_caused_by : List ℕ → Bool
says_caused_by plain = bytes_eq (without_spaces plain) (codes "Caused by:")

-- how far the search for a cause is after a print
abbrev pub stage_after : Stage → List ℕ → Stage
stage_after Over plain = stage.Over
stage_after Failed plain = if says_caused_by plain then stage.CausedBy else stage.Failed
stage_after CausedBy plain = stage.Over

-- after a print, which right after `Caused by:` is the cause of the last failure
abbrev pub with_cause : Stage → OthersView → List ℕ → List ℕ → OthersView
with_cause Over o line plain = o
with_cause Failed o line plain = o
with_cause CausedBy o line plain = record o {
  causes = o.causes ++ record { headings = o.headings; line = cut line } ∷ [];
  last_cause = Some (cut plain);
}

-- after a print
abbrev pub after_print : OthersView → List ℕ → List ℕ → OthersView
after_print o line plain = with_cause o.stage (record o { prints = with_print o.prints line; stage = stage_after o.stage plain }) line plain

-- after a heading
abbrev pub after_heading : OthersView → OthersView
after_heading o = record o { past = o.past ++ o.prints ∷ []; prints = no_prints; headings = o.headings + 1; stage = stage.Over }

-- after a failure of cargo
abbrev pub after_failure : OthersView → OthersView
after_failure o = record o { past = o.past ++ o.prints ∷ []; prints = no_prints; last_cause = None; stage = stage.Failed }

-- the place of the next print: how many headings and failures came before it, and how many prints between the last of these and it
abbrev pub print_place : OthersView → PrintPlace
print_place o = record { part = length o.past; print = o.prints.count }

-- the place of an event: how many causes and headings came before it
abbrev pub event_place : OthersView → EventPlace
event_place o = record { causes = length o.causes; headings = o.headings }

-- the prints of a part
abbrev pub part_at : OthersView → ℕ → PrintsView
part_at o part = slice_index_or o.past part o.prints

-- the text of the prints from a place on, up to the first heading or failure after it: the longest end that fits
abbrev pub prints_from : OthersView → PrintPlace → List ℕ
prints_from o at = text_from (part_at o at.part) at.print

-- the last three of them that are not blank
abbrev pub last_prints_from : OthersView → PrintPlace → List (List ℕ)
last_prints_from o at = last_from (part_at o at.part) at.print

-- the first cause after an event, unless a heading came between them
abbrev pub cause_after : OthersView → EventPlace → Option (List ℕ)
cause_after o at = option_and_then (λ c. if c.headings == at.headings then Some c.line else None) (slice_get o.causes at.causes)
