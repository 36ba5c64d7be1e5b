-- A run in which nothing is wrong.
use Rattle.std.proofs.Common.{◌≡◌, ◌≢◌, ◌∙◌, ◌≤◌, ◌<◌, ◌+◌, ◌++◌, ◌∷◌, [], ℕ, List, Bool, true, false, Option, Some, None, refl, ap, arith, cond, inl, inr, length, subst, sym}
use Rattle.std.specs.List.{count_by, remove, sum_by}
use Rattle.std.specs.Option.{option_map_or}
use Rattle.std.specs.Prelude.{◌==◌, if◌then◌else◌}
use Rattle.std.proofs.lemmas.Bool.{cases_lt}
use Rattle.std.proofs.lemmas.List.Elements.{All-get_or}
use Rattle.std.proofs.lemmas.List.Sums.{sum_by-append}
use Rattle.test_report_events.specs.Event.{AllEndEarly, EventView, SuiteEndView, SuiteEnds, SuiteStarts}
use Rattle.test_report_run_notes.specs.Note.{NoteView, failed_of}
use Rattle.test_report_laws.proofs.Announced.{announced-counted}
use Rattle.test_report_laws.proofs.Books.{position-in}
use Rattle.test_report_laws.proofs.CargoFailures.{cargo-shows}
use Rattle.test_report_laws.proofs.CargoReports.{only-settled_at, ready, with_reports}
use Rattle.test_report_laws.proofs.RunCauses.{causes-of, weight}
use Rattle.test_report_laws.proofs.CleanEnds.{clean-whole}
use Rattle.test_report_laws.proofs.Damage.{lines-shown}
use Rattle.test_report_laws.proofs.FailedLines.{lines-told, told-failed}
use Rattle.test_report_laws.proofs.FileEvents.{ended-well, file-event}
use Rattle.test_report_laws.proofs.LineParts.{end-weighs, line-weighs}
use Rattle.test_report_laws.proofs.Outcomes.{outcome-means}
use Rattle.test_report_laws.proofs.Shown.{last-agrees, stray-shows}
use Rattle.test_report_laws.proofs.Sound.{failures-known, suites-sound}
use Rattle.test_report_laws.proofs.Tallies.{totals-count}
use Rattle.test_report_laws.proofs.Verdicts.{all-causes, early-cause, end-causes, outside-cause, outside-shows, unclean}
use Rattle.test_report_laws.proofs.Weights.{all-numbered, has-number, numbered-ready, unnumbered, weight_of}
use Rattle.test_report_laws.specs.Run.{Agrees, IsClean, IsSound, failed_in, failed_verdicts_of, is_test, not_run_of, passed_in}
use Rattle.test_report_run.specs.Over.{last_notes, nothing_known}
use Rattle.test_report_run.specs.Run.{RunSettings, RunState, counts_tests, early_end, ended_at, has_failed, is_cause, is_contradiction, notes_at, open_suite, opened, run_start, settled_at, started_again, step, stray_suite_notes, suite_at, tests_in, told, with_suite_at, without_tests}
use Rattle.test_report_run.specs.Said.{numbers_of}
use Rattle.test_report_laws.specs.Status.{EndsInOrder, IsInOrder, SuccessIsInOrder}
use Rattle.test_report_run.specs.Suite.{SuiteState, cancelled_by, has_key, with_line}
use Rattle.test_report_laws.specs.Whole.{IsLineOf, all_notes, notes_of, run_after, run_after_files}

module _ (settings : RunSettings) (files : List (List EventView)) (clean : IsClean (all_notes settings files)) where
  no-cause : count_by is_cause (all_notes settings files) ≡ 0
  no-cause = omega (arith, causes-of (all_notes settings files), clean.none_failed, clean.none_contradict)

  numbered : (r : RunState) (before : List (List EventView)) (lines : List EventView) → r ≡ run_after (run_after_files (run_start settings) before) lines
      → weight_of unnumbered r ≡ 0
  numbered r before lines is = ap (weight_of unnumbered) is ∙ all-numbered settings before lines

  -- a weight of what is known before a line is one of what is known at the end, and so is what the line makes known
  known-before : (w : NoteView → ℕ) (r : RunState) (e : EventView) (line : IsLineOf settings files r e)
      → sum_by w (all_notes settings line.before ++ notes_of (run_after_files (run_start settings) line.before) line.lines) ≤ sum_by w
      (all_notes settings files)
  known-before w r e line =
      let lines = notes_of (run_after_files (run_start settings) line.before) line.lines in
      omega (
        arith,
        line-weighs w settings files r e line,
        sum_by-append w (all_notes settings line.before) lines,
        sum_by-append w (all_notes settings line.before) (lines ++ notes_at r e),
        sum_by-append w lines (notes_at r e),
      )

  known-by : (w : NoteView → ℕ) (r : RunState) (e : EventView) → IsLineOf settings files r e → sum_by w (notes_at r e) ≤ sum_by w (all_notes settings files)
  known-by w r e line =
      let lines = notes_of (run_after_files (run_start settings) line.before) line.lines in
      omega (
        arith,
        line-weighs w settings files r e line,
        sum_by-append w (all_notes settings line.before) (lines ++ notes_at r e),
        sum_by-append w lines (notes_at r e),
      )

  own-by : (w : NoteView → ℕ) (r : RunState) (e : EventView) → IsLineOf settings files r e
      → sum_by w (told (ready r e) e).notes ≤ sum_by w (all_notes settings files)
  own-by w r e line = omega (arith, known-by w r e line, sum_by-append w (settled_at r e).notes (told (ready r e) e).notes)

  clean-line : (r : RunState) (e : EventView) → IsLineOf settings files r e → IsClean (told (ready r e) e).notes
  clean-line r e line = record {
    none_failed = omega (arith, clean.none_failed, own-by (λ x. cond (is_test (λ t. has_failed t.outcome) x) 1 0) r e line);
    none_contradict = omega (arith, clean.none_contradict, own-by (λ x. cond (is_contradiction x) 1 0) r e line);
    all_run = omega (arith, clean.all_run, own-by not_run_of r e line);
  }

  -- the last line of a suite
  over-notes : (r : RunState) (e : SuiteEndView) (at : ℕ) → open_suite r e.key ≡ Some at → (with_line (suite_at r (Some at)) e).open_lines ≡ 0
      → (told r (SuiteEnds e)).notes
      ≡ last_notes (cancelled_by r.cancel (with_line (suite_at r (Some at)) e)) (tests_in r (with_line (suite_at r (Some at)) e))
  over-notes r e at is over =
      let s : SuiteState = with_line (suite_at r (Some at)) e in
      let last = step (without_tests (record r { suites = remove r.suites at }) s) (last_notes (cancelled_by r.cancel s) (tests_in r s)) in
      ap (λ (place : Option ℕ). (option_map_or (ended_at r e) place (step r (stray_suite_notes e))).notes) is
      ∙ ap (λ (n : ℕ). (if n == 0 then last else step (with_suite_at r (Some at) s) []).notes) over

  -- also if failures of cargo become known before
  own-notes : (r : RunState) (e : SuiteEndView) (at : ℕ) → open_suite r e.key ≡ Some at → (with_line (suite_at r (Some at)) e).open_lines ≡ 0
      → (told (ready r (SuiteEnds e)) (SuiteEnds e)).notes
      ≡ last_notes (cancelled_by r.cancel (with_line (suite_at r (Some at)) e)) (tests_in r (with_line (suite_at r (Some at)) e))
  own-notes r e at is over =
      let only = only-settled_at r (SuiteEnds e) in
      ap (λ (x : RunState). (told x (SuiteEnds e)).notes) only.run_is
      ∙ over-notes (with_reports r only.reported only.held only.causes) e at is over

  ends-well : (r : RunState) (e : SuiteEndView) (at : ℕ) → IsLineOf settings files r (SuiteEnds e) → open_suite r e.key ≡ Some at
      → (with_line (suite_at r (Some at)) e).open_lines ≡ 0
      → EndsInOrder (cancelled_by r.cancel (with_line (suite_at r (Some at)) e)) (tests_in r (with_line (suite_at r (Some at)) e))
  ends-well r e at line is over =
      let old = suite_at r (Some at) in
      let s : SuiteState = with_line old e in
      let tests = tests_in r s in
      let now : IsClean (last_notes (cancelled_by r.cancel s) tests) = subst IsClean (own-notes r e at is over) (clean-line r (SuiteEnds e) line) in
      let in' : at < length r.suites = position-in (has_key e.key) r.suites (Some at) is in
      let some : s.number ≢ None = has-number r at (numbered r line.before line.lines line.run_is) in' in
      let sound = All-get_or IsSound r.suites at r.outside in' (suites-sound settings line.before line.lines r line.run_is).1 in
      let agrees = (last-agrees (cancelled_by r.cancel s) tests some record { retried = sound.retried; passed = sound.passed }).0 now.none_contradict in
      let none : failed_of s.stats + failed_in (last_notes (cancelled_by r.cancel s) tests) ≡ 0 = omega (
        arith,
        now.none_failed,
        clean.none_failed,
        failures-known settings line.before line.lines r line.run_is at r.outside in',
        known-before (λ x. cond (is_test (λ t. has_failed t.outcome) x) 1 0) r (SuiteEnds e) line,
      ) in
      record {
        numbers = subst (Agrees (numbers_of s.said) (s.stats.passed + passed_in (last_notes (cancelled_by r.cancel s) tests))) none agrees;
        no_test_lost = (clean-whole (cancelled_by r.cancel s) tests now).no_test_lost;
      }

  -- the first line of a suite without key
  none-ends : (r : RunState) (count : Option ℕ) (at : Option ℕ) → open_suite r None ≡ at → weight_of unnumbered r ≡ 0
      → count_by is_cause (option_map_or (started_again r None count) at (step (opened r None count) [])).notes ≡ 0 → at ≡ None
  none-ends r count None is fine none = refl
  none-ends r count (Some at) is fine none =
      let s = suite_at r (Some at) in
      let own = cancelled_by r.cancel s in
      let some = has-number r at fine (position-in (has_key None) r.suites (Some at) is) in
      absurd (omega (arith, none, early-cause r.others nothing_known own (tests_in r s) (λ zero. absurd (some zero))))

  not-one : (b : Bool) → ◌≡◌ {A = ℕ} (if b then 1 else 0) 0 → b ≡ false
  not-one true h = absurd (cc)
  not-one false h = refl

  nothing-in : (suites : List SuiteState) → length suites ≡ 0 → suites ≡ []
  nothing-in [] h = refl
  nothing-in (s ∷ suites) h = absurd (omega arith)

  zero-or-absurd : (n : ℕ) → (0 < n → ⊥) → n ≡ 0
  zero-or-absurd n never = elim (cases_lt 0 n) [
    | inl some ↦ absurd (never some)
    | inr none ↦ omega arith
  ]

  pub in-order : IsInOrder settings files
  in-order = record {
    clean = clean;
    no_failed_line = omega (arith, clean.none_failed, told-failed (all_notes settings files), lines-told settings files);
    no_failed_verdict = zero-or-absurd (failed_verdicts_of files) (λ some. unclean settings files some clean);
    no_damaged_line = omega (arith, lines-shown settings files, no-cause);
    commands = ended-well settings files clean;
    events = file-event settings files clean;
    last_lines = ends-well;
    stray_lines = λ r e line closed.
        let place = ap (λ (x : RunState). open_suite x e.key) (only-settled_at r (SuiteEnds e)).run_is in
        not-one (counts_tests e) (sym (stray-shows (ready r (SuiteEnds e)) e (place ∙ closed)) ∙ (clean-line r (SuiteEnds e) line).none_contradict);
    one_without_key = λ r count line.
        let e = SuiteStarts None count in
        let place = ap (λ (x : RunState). open_suite x None) (only-settled_at r e).run_is in
        let fine = numbered-ready r e (numbered r line.before line.lines line.run_is) in
        sym place ∙ none-ends (ready r e) count (open_suite (ready r e) None) refl fine (omega (arith, own-by weight r e line, no-cause));
    none_open = λ r end.
        nothing-in r.suites (omega (arith, no-cause, end-weighs weight settings files r end, end-causes r (numbered r end.before end.file end.run_is)));
    none_outside = λ r end. zero-or-absurd r.outside.started
        (λ some. absurd (omega (arith, no-cause, end-weighs weight settings files r end, outside-cause r some)));
    none_early = λ r end line.
        let how = early_end r end in
        let quiet = own-by weight r (AllEndEarly end) line in
        let causes = all-causes how r (numbered r line.before line.lines line.run_is) in (
          nothing-in r.suites (omega (arith, no-cause, quiet, causes)),
          zero-or-absurd r.outside.started (λ some. absurd (omega (arith, no-cause, quiet, outside-shows how r some))),
        );
    announced = omega (arith, announced-counted settings files, (totals-count settings files).not_run, clean.all_run);
    cargo = λ r f line plain at never none.
        absurd (omega (arith, cargo-shows settings files r f line plain at none never, clean.none_failed, clean.none_contradict));
  }

pub success-in-order : SuccessIsInOrder
success-in-order settings files =
    let means = outcome-means settings files in (
      (λ h. let m = means.success.0 h in (m.1, in-order settings files m.0)),
      (λ h. let m = means.no_tests.0 h in (m.1, in-order settings files m.0)),
    )
