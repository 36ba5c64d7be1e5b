-- The failed tests and contradictions that are known.
use Rattle.std.proofs.Common.{◌≡◌, ◌+◌, ℕ, List, cond, refl, arith}
use Rattle.std.specs.List.{count_by}
use Rattle.test_report_run_notes.specs.Note.{NoteView, TestIs}
use Rattle.test_report_laws.proofs.Sums.{sum-both}
use Rattle.test_report_laws.specs.Run.{contradictions_in, failed_in, is_test}
use Rattle.test_report_run.specs.Run.{has_failed, is_cause, is_contradiction}

-- a cause is a failed test or a contradiction
abbrev pub weight : NoteView → ℕ
weight note = cond (is_cause note) 1 0

pub causes-of : (notes : List NoteView) → count_by is_cause notes ≡ failed_in notes + contradictions_in notes
causes-of = sum-both weight (λ x. cond (is_test (λ t. has_failed t.outcome) x) 1 0) (λ x. cond (is_contradiction x) 1 0) each
  where
    each : (note : NoteView) → weight note ≡ cond (is_test (λ t. has_failed t.outcome) note) 1 0 + cond (is_contradiction note) 1 0
    each (TestIs t) = grind arith
    each note = refl
