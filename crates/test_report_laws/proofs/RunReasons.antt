-- Why a run does not succeed.
use Rattle.std.proofs.Common.{◌≡◌, ◌≢◌, ◌<◌, ◌+◌, ◌∷◌, [], ℕ, List, refl, arith, inl, inr}
use Rattle.std.specs.List.{count_by, sum_by}
use Rattle.std.specs.Prelude.{◌⊎◌, Contains, IsTrue}
use Rattle.std.proofs.lemmas.Bool.{cases_lt}
use Rattle.std.proofs.lemmas.List.Elements.{Contains-append_right}
use Rattle.std.proofs.lemmas.List.Sums.{sum_by-cons}
use Rattle.run_events_stats.specs.declared.outcome.run_outcome.RunOutcome.{RunOutcome}
use Rattle.run_events_stats.specs.declared.outcome.run_outcome.RunOutcome.TheVariants as outcome
use Rattle.test_report_run_notes.specs.Note.{Contradicts, FlakyEnds, IsNotRun, NoteView, SuiteIs, TestIs}
use Rattle.test_report_laws.proofs.RunCauses.{causes-of, weight}
use Rattle.test_report_laws.proofs.NotRun.{of_suites, suites-named}
use Rattle.test_report_laws.proofs.Outcomes.{outcome-means}
use Rattle.test_report_laws.proofs.Sums.{sum-both}
use Rattle.test_report_laws.specs.Run.{Means, contradictions_in, failed_in, not_run_in, passed_in}
use Rattle.test_report_run.specs.Run.{is_cause}
use Rattle.test_report_laws.specs.Status.{FailureHasReason, is_reason}
use Rattle.test_report_laws.specs.Whole.{all_notes, whole_end}

-- an element that weighs something
some-in : {X : Type 0} (w : X → ℕ) (xs : List X) → 0 < sum_by w xs → (x : X) × Contains xs x × (0 < w x)
some-in w [] some = absurd (omega arith)
some-in w (x ∷ xs) some = elim (cases_lt 0 (w x)) [
  | inl more ↦ (x, (0, omega arith, refl), more)
  | inr none ↦
      let rest = some-in w xs (omega (arith, sum_by-cons w x xs)) in
      (rest.0, Contains-append_right (x ∷ []) xs rest.0 rest.1, rest.2)
]

-- what a reason weighs
abbrev reason : NoteView → ℕ
reason note = weight note + of_suites note

is-reason : (note : NoteView) → 0 < reason note → IsTrue (is_reason note)
is-reason (TestIs t) some = grind arith
is-reason (FlakyEnds t) some = absurd (omega arith)
is-reason (Contradicts d) some = refl
is-reason (IsNotRun suite n of) some = refl
is-reason (SuiteIs s) some = absurd (omega arith)

reason-in : (notes : List NoteView) → 0 < sum_by reason notes → (note : NoteView) × Contains notes note × IsTrue (is_reason note)
reason-in notes some = let found = some-in reason notes some in (found.0, found.1, is-reason found.0 found.2)

some-reason : (notes : List NoteView) → (count_by is_cause notes ≡ 0 → sum_by of_suites notes ≡ not_run_in notes)
    → 0 < failed_in notes + contradictions_in notes + not_run_in notes → 0 < sum_by reason notes
some-reason notes named some =
    let parts = sum-both reason weight of_suites (λ x. refl) notes in
    elim (cases_lt 0 (count_by is_cause notes)) [
      | inl more ↦ omega (arith, parts)
      | inr none ↦ omega (arith, parts, named (omega (arith, none)), causes-of notes)
    ]

by-outcome : (notes : List NoteView) (o : RunOutcome) → (count_by is_cause notes ≡ 0 → sum_by of_suites notes ≡ not_run_in notes) → Means notes o
    → o ≢ outcome.Success
    → ((note : NoteView) × Contains notes note × IsTrue (is_reason note)) ⊎ ((o ≡ outcome.NoTestsRun) × (passed_in notes ≡ 0))
by-outcome notes outcome.NoTestsRun named means fails = inr (refl, (means.no_tests.0 refl).1)
by-outcome notes o named means fails = inl (reason-in notes (some-reason notes named (means.others fails (λ h. cc))))

pub failure-reason : FailureHasReason
failure-reason settings files = by-outcome (all_notes settings files) (whole_end settings files).outcome (suites-named settings files)
    (outcome-means settings files)
