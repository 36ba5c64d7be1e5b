-- The lines of a whole run that say that a test failed.
use Rattle.std.proofs.Common.{◌≡◌, ℕ, List, ◌<◌, ◌≤◌, cond, refl, arith}
use Rattle.std.proofs.lemmas.List.Sums.{sum_by-append, sum_by-le-sum_by}
use Rattle.test_report_events.specs.Event.{EventView}
use Rattle.test_report_run_notes.specs.Note.{Fails, NoteView, OutcomeView, TestIs}
use Rattle.test_report_laws.proofs.Outcomes.{outcome-means}
use Rattle.test_report_laws.proofs.OverRuns.{over-run}
use Rattle.test_report_laws.proofs.Sums.{one-most}
use Rattle.test_report_laws.proofs.ToldFailures.{no-failure, one-failure, told}
use Rattle.test_report_laws.specs.Run.{FailedLineShows, FailedLinesAreTold, IsClean, failed_in, failed_lines_of, fails_as_told, is_test, is_told, is_told_failure, says_failed}
use Rattle.test_report_run.specs.FileEnd.{file_notes}
use Rattle.test_report_run.specs.Run.{RunSettings, RunState, has_failed, notes_at}
use Rattle.test_report_laws.specs.Whole.{all_notes}

-- a failed test for each of them
abbrev AreTold : ℕ → List NoteView → RunState → Type 0
AreTold n notes r = told notes ≡ n

pub lines-told : FailedLinesAreTold
lines-told settings = over-run AreTold AreTold (λ e. cond (says_failed e) 1 0) (λ n notes r i. i)
    (λ n notes r e i. omega (arith, i, one-failure r e, sum_by-append (λ x. cond (is_told_failure x) 1 0) notes (notes_at r e)))
    (λ n notes r i. omega (arith, i, no-failure r, sum_by-append (λ x. cond (is_told_failure x) 1 0) notes (file_notes r))) settings refl

-- such a test failed
told-outcome : (o : OutcomeView) → cond (fails_as_told o) 1 0 ≤ cond (has_failed o) 1 0
told-outcome (Fails f) = one-most (is_told f.kind)
told-outcome o = omega arith

told-note : (note : NoteView) → cond (is_told_failure note) 1 0 ≤ cond (is_test (λ t. has_failed t.outcome) note) 1 0
told-note (TestIs t) = told-outcome t.outcome
told-note note = omega arith

pub told-failed : (notes : List NoteView) → told notes ≤ failed_in notes
told-failed notes = sum_by-le-sum_by (λ x. cond (is_told_failure x) 1 0) (λ x. cond (is_test (λ t. has_failed t.outcome) x) 1 0) notes told-note

unclean : (settings : RunSettings) (files : List (List EventView)) → 0 < failed_lines_of files → IsClean (all_notes settings files) → ⊥
unclean settings files some clean = omega (arith, clean.none_failed, told-failed (all_notes settings files), lines-told settings files)

pub line-shows : FailedLineShows
line-shows settings files some =
    let means = outcome-means settings files in
    ((λ h. unclean settings files some (means.success.0 h).0), (λ h. unclean settings files some (means.no_tests.0 h).0))
