-- Damaged lines that say that a test or a suite failed.
use Rattle.std.proofs.Common.{ℕ, List, ◌++◌, ◌+◌, ◌<◌, ◌≤◌, cond, arith}
use Rattle.std.specs.List.{count_by}
use Rattle.std.proofs.lemmas.List.Sums.{sum_by-append}
use Rattle.test_report_events.specs.Event.{DamagedLine, EventView}
use Rattle.test_report_run_notes.specs.Note.{NoteView}
use Rattle.test_report_laws.proofs.Outcomes.{outcome-means}
use Rattle.test_report_laws.proofs.OverRuns.{over-run}
use Rattle.test_report_laws.proofs.RunCauses.{causes-of, weight}
use Rattle.test_report_laws.specs.Run.{DamagedLineShows, IsClean, damaged_lines_of, is_damaged}
use Rattle.test_report_run.specs.FileEnd.{file_notes}
use Rattle.test_report_run.specs.Run.{RunSettings, RunState, after, is_cause, notes_at}
use Rattle.test_report_laws.specs.Whole.{all_notes}

abbrev damage : EventView → ℕ
damage e = cond (is_damaged e) 1 0

-- a cause for each of them
abbrev AreShown : ℕ → List NoteView → RunState → Type 0
AreShown n notes r = n ≤ count_by is_cause notes

shown-line : (n : ℕ) (notes : List NoteView) (r : RunState) (e : EventView) → AreShown n notes r
    → AreShown (n + damage e) (notes ++ notes_at r e) (after r e)
shown-line n notes r (DamagedLine text) i = omega (arith, i, sum_by-append weight notes (notes_at r (DamagedLine text)))
shown-line n notes r e i = omega (arith, i, sum_by-append weight notes (notes_at r e))

pub lines-shown : (settings : RunSettings) (files : List (List EventView)) → damaged_lines_of files ≤ count_by is_cause (all_notes settings files)
lines-shown settings = over-run AreShown AreShown damage (λ n notes r i. i) shown-line
    (λ n notes r i. omega (arith, i, sum_by-append weight notes (file_notes r))) settings (omega arith)

unclean : (settings : RunSettings) (files : List (List EventView)) → 0 < damaged_lines_of files → IsClean (all_notes settings files) → ⊥
unclean settings files some clean = omega (
  arith,
  some,
  lines-shown settings files,
  causes-of
      (all_notes settings files),
  clean.none_failed,
  clean.none_contradict,
)

pub damage-shows : DamagedLineShows
damage-shows settings files some =
    let means = outcome-means settings files in
    ((λ h. unclean settings files some (means.success.0 h).0), (λ h. unclean settings files some (means.no_tests.0 h).0))
