-- The outcome of a run, by the sums over its suites.
use Rattle.std.proofs.Common.{◌≡◌, ◌≢◌, ◌∙◌, ℕ, List, [], ◌∷◌, ◌+◌, ◌<◌, Bool, true, false, Option, Some, None, refl, ap, arith, subst, sym}
use Rattle.std.specs.List.{fold, sum_by}
use Rattle.std.specs.Prelude.{◌==◌, if◌then◌else◌, nat_le, nat_lt}
use Rattle.std.proofs.lemmas.Bool.{eqb-false, eqb-true, ltb-false, ltb-true}
use Rattle.std.proofs.lemmas.Bool.Decides.{nat_tests}
use Rattle.std.proofs.lemmas.List.Sums.{sum_by-cons}
use Rattle.run_events_results.specs.declared.results.CancelReason.{CancelReason}
use Rattle.run_events_stats.specs.Outcome.{combined, outcome_rank}
use Rattle.run_events_stats.specs.Summary.{failed_tests}
use Rattle.run_events_stats.specs.declared.outcome.RunFailureStep.TheVariants as step
use Rattle.run_events_stats.specs.declared.outcome.run_outcome.RunOutcome.{RunOutcome}
use Rattle.run_events_stats.specs.declared.outcome.run_outcome.RunOutcome.TheVariants as outcome
use Rattle.run_events_stats.specs.declared.stats.RunStats.{RunStats}
use Rattle.test_report_events.specs.Event.{EventView}
use Rattle.test_report_run_notes.specs.Note.{Fails, FlakyEnds, IsSkipped, IsStopped, NoteView, OutcomeView, Passes, SuiteIs, SuiteNoteView, TestIs}
use Rattle.test_report_run_notes.specs.declared.note.RunEnd.{RunEnd}
use Rattle.test_report_laws.proofs.Counters.{of_suite, of_test, sums-up, with_outcome, fits}
use Rattle.test_report_laws.proofs.Sums.{sum-none}
use Rattle.test_report_laws.proofs.Tallies.{counted, failed-total, run-sums}
use Rattle.test_report_laws.specs.Run.{Counts, IsClean, Means, OutcomeMeans, contradictions_in, failed_in, not_run_in}
use Rattle.test_report_run.specs.Run.{RunSettings, run_start, with_note}
use Rattle.test_report_run.specs.Totals.{ending, no_suites, suite_outcome, with_suite}
use Rattle.test_report_laws.specs.Whole.{all_notes, run_after_files}

-- the outcome of tests: some failed, some were not run, none finished
abbrev outcome_by : Bool → Bool → Bool → RunOutcome
outcome_by true not_run none = outcome.Failed step.Test
outcome_by false true none = outcome.Cancelled step.Test
outcome_by false false true = outcome.NoTestsRun
outcome_by false false false = outcome.Success

-- the scripts of statistics, and why the run was cancelled
abbrev is_cancelled : Option CancelReason → ℕ
is_cancelled None = 0
is_cancelled (Some reason) = 1

abbrev scripts_of : RunStats → ℕ
scripts_of s =
    s.setup_scripts_failed + s.setup_scripts_exec_failed + s.setup_scripts_timed_out + s.setup_scripts_initial_count + is_cancelled s.cancel_reason

-- suites have none
scripts-counts : (stats : RunStats) (o : OutcomeView) (n : ℕ) (slow : Bool) → fits o n ≡ true → scripts_of (with_outcome stats o n slow) ≡ scripts_of stats + 0
scripts-counts stats (Passes output) n slow fit = omega arith
scripts-counts stats (IsSkipped reason) n slow fit = omega arith
scripts-counts stats IsStopped n slow fit = omega arith
scripts-counts stats (Fails f) n slow fit = omega arith

none-of : (note : NoteView) → of_test (λ o n slow. 0) note ≡ 0
none-of (TestIs t) = refl
none-of (FlakyEnds t) = refl
none-of note = refl

no-scripts : (settings : RunSettings) (files : List (List EventView)) → sum_by (of_suite (λ s. scripts_of s.stats)) (all_notes settings files) ≡ 0
no-scripts settings files =
    let sums = sums-up scripts_of (λ o n slow. 0) refl scripts-counts (λ output n slow h. refl) (λ reason n slow. refl) settings files in
    omega (arith, sum-none (of_test (λ o n slow. 0)) none-of (all_notes settings files))

-- the outcome of one suite
not-cancelled : (why : Option CancelReason) → is_cancelled why ≡ 0 → why ≡ None
not-cancelled None h = refl
not-cancelled (Some reason) h = absurd (omega arith)

suite-outcome : (s : SuiteNoteView) → scripts_of s.stats ≡ 0
    → suite_outcome s ≡ outcome_by (nat_lt 0 (failed_tests s.stats)) (nat_lt 0 s.not_run) (s.stats.finished_count == 0)
suite-outcome s none =
    let why : s.stats.cancel_reason ≡ None = not-cancelled s.stats.cancel_reason (omega arith) in
    rw why (grind (arith, nat_tests))

-- the outcome of a run is that of its sums
abbrev IsOf : RunEnd → Type 0
IsOf e = e.outcome ≡ outcome_by (nat_lt 0 (failed_tests e.stats)) (nat_lt 0 e.not_run) (e.stats.finished_count == 0)

outcome-step : (e : RunEnd) (s : SuiteNoteView) → scripts_of s.stats ≡ 0 → IsOf e → IsOf (with_suite e s)
outcome-step e s none is = rw (is, suite-outcome s none) (grind (arith, nat_tests))

outcome-fold : (e : RunEnd) (notes : List NoteView) → sum_by (of_suite (λ s. scripts_of s.stats)) notes ≡ 0 → IsOf e → IsOf (fold with_note e notes)
outcome-fold e [] none is = is
outcome-fold e (note ∷ notes) none is =
    let parts = sum_by-cons (of_suite (λ s. scripts_of s.stats)) note notes in
    outcome-fold (with_note e note) notes (omega arith) (each note (omega arith))
  where
    each : (note : NoteView) → of_suite (λ s. scripts_of s.stats) note ≡ 0 → IsOf (with_note e note)
    each (SuiteIs s) h = outcome-step e s h is
    each note h = is

outcome-of-sums : (settings : RunSettings) (files : List (List EventView)) → IsOf (fold with_note no_suites (all_notes settings files))
outcome-of-sums settings files = outcome-fold no_suites (all_notes settings files) (no-scripts settings files) refl

-- the outcome with contradictions, of which some do not say that the run was cancelled, or all do
abbrev with_contradictions : Bool → RunOutcome → RunOutcome
with_contradictions beyond o = if beyond then outcome.Failed step.Test else combined o (outcome.Cancelled step.Test)

-- it is one of a higher rank than that of a clean run
abbrev is_wrong : RunOutcome → Bool
is_wrong o = nat_lt 1 (outcome_rank o)

wrong-with : (beyond : Bool) (o : RunOutcome) → is_wrong (with_contradictions beyond o) ≡ true
wrong-with true o = refl
wrong-with false o = elim (nat_le (outcome_rank o) 2) as (λ b. nat_le (outcome_rank o) 2 ≡ b → is_wrong (if b then outcome.Cancelled step.Test else o) ≡ true) [
  | true ↦ λ low. refl
  | false ↦ λ high. grind (arith, nat_tests)
] refl

-- what an outcome says
abbrev end_outcome : (beyond contradict failed not_run none : Bool) → RunOutcome
end_outcome beyond contradict failed not_run none =
    if contradict then with_contradictions beyond (outcome_by failed not_run none) else outcome_by failed not_run none

-- the outcome by the numbers of notes: another one where something is wrong
other : (notes : List NoteView) (o : RunOutcome) → 0 < failed_in notes + contradictions_in notes + not_run_in notes → o ≢ outcome.Success
    → o ≢ outcome.NoTestsRun → Means notes o
other notes o some a b = record {
  success = ((λ h. absurd (a h)), (λ h. absurd (let c = h.0 in omega (arith, c.none_failed, c.none_contradict, c.all_run))));
  no_tests = ((λ h. absurd (b h)), (λ h. absurd (let c = h.0 in omega (arith, c.none_failed, c.none_contradict, c.all_run))));
  others = λ _ _. some;
}

means : (notes : List NoteView) (e : RunEnd) (b d f m z : Bool) → Counts notes e → failed_tests e.stats ≡ failed_in notes
    → nat_lt 0 (contradictions_in notes) ≡ d → nat_lt 0 (failed_tests e.stats) ≡ f → nat_lt 0 e.not_run ≡ m → (e.stats.finished_count == 0) ≡ z
    → Means notes (end_outcome b d f m z)
means notes e b true f m z sums failed hd hf hm hz =
    let wrong = wrong-with b (outcome_by f m z) in
    other notes _ (omega (arith, ltb-true 0 (contradictions_in notes) hd)) (λ h. cc) (λ h. cc)
means notes e b false true m z sums failed hd hf hm hz =
    other notes _ (omega (arith, ltb-true 0 (failed_tests e.stats) hf)) (λ e. cc) (λ e. cc)
means notes e b false false true z sums failed hd hf hm hz = other notes _ (omega (arith, ltb-true 0 e.not_run hm)) (λ e. cc) (λ e. cc)
means notes e b false false false z sums failed hd hf hm hz =
    let clean : IsClean notes = record {
      none_failed = omega (arith, ltb-false 0 (failed_tests e.stats) hf);
      none_contradict = omega (arith, ltb-false 0 (contradictions_in notes) hd);
      all_run = omega (arith, ltb-false 0 e.not_run hm);
    } in
    by-tests-run z hz clean
  where
    by-tests-run : (z : Bool) → (e.stats.finished_count == 0) ≡ z → IsClean notes → Means notes (end_outcome b false false false z)
    by-tests-run true none clean = record {
      success = ((λ e. absurd (cc)), (λ h. absurd (omega (arith, h.1, eqb-true e.stats.finished_count 0 none))));
      no_tests = ((λ _. (clean, omega (arith, eqb-true e.stats.finished_count 0 none))), (λ _. refl));
      others = λ a b. absurd (b refl);
    }
    by-tests-run false some clean = record {
      success = ((λ _. (clean, omega (arith, clean.none_failed, eqb-false e.stats.finished_count 0 some))), (λ _. refl));
      no_tests = ((λ e. absurd (cc)), (λ h. absurd (eqb-false e.stats.finished_count 0 some (omega (arith, h.1, clean.none_failed)))));
      others = λ a b. absurd (a refl);
    }

ending-outcome : (e : RunEnd) (contradictions cancels : ℕ) → (ending e contradictions cancels).outcome
    ≡ (if nat_lt 0 contradictions then with_contradictions (nat_lt cancels contradictions) e.outcome else e.outcome)
ending-outcome e contradictions cancels = by-tests (nat_lt cancels contradictions) (nat_lt 0 contradictions) refl refl
  where
    by-tests : (beyond contradict : Bool) → nat_lt cancels contradictions ≡ beyond → nat_lt 0 contradictions ≡ contradict
        → (if beyond then record e { outcome = outcome.Failed step.Test }
        else if contradict then record e { outcome = combined e.outcome (outcome.Cancelled step.Test) }
        else e).outcome
        ≡ (if contradict then with_contradictions beyond e.outcome else e.outcome)
    by-tests true true more some = refl
    by-tests true false more none = absurd (omega (arith, ltb-true cancels contradictions more, ltb-false 0 contradictions none))
    by-tests false true few some = refl
    by-tests false false few none = refl

pub outcome-means : OutcomeMeans
outcome-means settings files =
    let notes = all_notes settings files in
    let r = run_after_files (run_start settings) files in
    let e = fold with_note no_suites notes in
    let beyond = nat_lt r.cancels r.contradictions in
    let is = ending-outcome r.totals r.contradictions r.cancels
    ∙ (ap (λ s. if nat_lt 0 s.1 then with_contradictions beyond s.0.outcome else s.0.outcome) (run-sums settings files)
    ∙ ap (λ o. if nat_lt 0 (contradictions_in notes) then with_contradictions beyond o else o) (outcome-of-sums settings files)) in
    subst (Means notes) (sym is) (means notes e beyond _ _ _ _ (counted settings files e.outcome) (failed-total settings files) refl refl refl refl)
