-- The suites of a run are sound.
use Rattle.std.proofs.Common.{◌++◌, ◌≤◌, List, arith, refl, subst, sym}
use Rattle.std.specs.List.{All}
use Rattle.std.proofs.lemmas.List.Elements.{All-weaker}
use Rattle.std.proofs.lemmas.List.Sums.{get_or-le-sum_by}
use Rattle.run_events_stats.specs.Summary.{failed_tests}
use Rattle.test_report_run_notes.specs.Note.{NoteView, failed_of}
use Rattle.test_report_laws.proofs.Books.{Holds, Rules, holds-after, kept}
use Rattle.test_report_laws.proofs.Counters.{Sound, counter-rules, of_suite, of_test}
use Rattle.test_report_laws.proofs.Tallies.{count-of, failed-counts, failed_weight}
use Rattle.test_report_laws.specs.Run.{FailuresAreKnown, IsSound, SuitesAreSound, failed_in}
use Rattle.test_report_run.specs.Run.{RunState, has_failed, run_start}
use Rattle.test_report_run.specs.Suite.{SuiteState}
use Rattle.test_report_laws.specs.Whole.{all_notes, notes_of, run_after_files}

as-record : (s : SuiteState) → Sound (kept s) → IsSound s
as-record s sound = record { retried = sound.late; passed = sound.passed }

-- the rules for failed tests
abbrev pub failed-rules : Rules 0 (of_test failed_weight) (of_suite (λ s. failed_tests s.stats)) (λ k. failed_tests k.stats) Sound
failed-rules = counter-rules failed_tests failed_weight refl failed-counts (λ output n slow h. refl) (λ reason n slow. refl)

pub all-sound : (notes : List NoteView) (r : RunState) → Holds failed-rules notes r → IsSound r.outside × All IsSound r.suites
all-sound notes r holds = (as-record r.outside holds.fine.0, All-weaker (λ s. Sound (kept s)) IsSound as-record r.suites holds.fine.1)

pub all-known : (notes : List NoteView) (r : RunState) → Holds failed-rules notes r → All (λ s. failed_of s.stats ≤ failed_in notes) r.suites
all-known notes r holds k d low =
    let sound = holds.fine.1 k d low in
    omega (
      arith,
      sound.fair,
      holds.books.high refl,
      count-of (λ t. has_failed t.outcome) failed_weight (λ t. refl) notes,
      get_or-le-sum_by (λ s. failed_tests s.stats) r.suites k d low,
    )

pub suites-sound : SuitesAreSound
suites-sound settings files events r is =
    subst (λ x. IsSound x.outside × All IsSound x.suites) (sym is) (all-sound _ _ (holds-after failed-rules settings files events))

pub failures-known : FailuresAreKnown
failures-known settings files events r is =
    let notes = all_notes settings files ++ notes_of (run_after_files (run_start settings) files) events in
    subst (λ (x : RunState). All (λ s. failed_of s.stats ≤ failed_in notes) x.suites) (sym is) (all-known _ _ (holds-after failed-rules settings files events))
