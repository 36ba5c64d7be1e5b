-- A suite whose last line makes nothing wrong known.
use Rattle.std.proofs.Common.{◌≡◌, ℕ, List, [], ◌+◌, ◌≤◌, Bool, Option, Some, None, refl, ap, arith, drop, length, length-drop, length-take}
use Rattle.std.specs.Option.{option_map_or}
use Rattle.std.specs.Prelude.{◌-◌, Contains, IfSome, if◌then◌else◌, max}
use Rattle.std.proofs.lemmas.List.Sums.{get_or-le-sum_by}
use Rattle.std.proofs.lemmas.Option.{IfSome_then}
use Rattle.test_report_run_notes.specs.Note.{HasNoEnd, SuiteIs, SuiteNoteView}
use Rattle.test_report_laws.proofs.Counters.{last-suite, of_suite, of_test}
use Rattle.test_report_laws.proofs.EndSums as ends
use Rattle.test_report_laws.proofs.EndSums.{last_by}
use Rattle.test_report_laws.proofs.Sums.{sum-ones}
use Rattle.test_report_laws.proofs.Tallies.{count-of, failed_weight, same-not_run, skipped-last, skipped_weight}
use Rattle.test_report_laws.specs.Run.{CleanEndIsWhole, failed_in, was_skipped}
use Rattle.test_report_run.specs.Running.{RunningView}
use Rattle.test_report_run.specs.Over.{explained_of, failed_note, initial_of, last_state, lost, rest_of}
use Rattle.test_report_run.specs.Run.{has_failed}
use Rattle.test_report_run.specs.Suite.{SuiteState}
use Rattle.test_report_laws.proofs.Types.{Explanation}

-- how many tests of a suite failed, as its last line explains them
failed-last : (s : SuiteState) (e : Explanation) (tests : List RunningView) → length (lost e tests) ≤ failed_in (last_by s e tests)
failed-last s e tests =
    let w = of_test failed_weight in
    omega (
      arith,
      count-of (λ t. has_failed t.outcome) failed_weight (λ t. refl) (last_by s e tests),
      ends.of-last w (λ d. refl) (λ suite n of. refl) s e tests,
      sum-ones (λ test. w (failed_note s HasNoEnd test)) (λ name. refl) (lost e tests),
    )

-- a list of tests: those that are lost, and those that are left
lost-or-left : (others : Bool) (tests : List RunningView) → length (if others then tests else []) + (if others then 0 else length tests) ≡ length tests
lost-or-left others tests = grind arith

-- where no test was not run, none is left, and as many finished or were skipped as were announced
none-left : (count : Option ℕ) (skipped finished left : ℕ)
    → option_map_or (λ c. max (c - skipped) (finished + left)) count (finished + left) - finished ≡ 0
    → (left ≡ 0) × IfSome count (λ c. c ≤ finished + skipped)
none-left None skipped finished left h = (omega arith, tt)
none-left (Some c) skipped finished left h = (omega arith, omega arith)

-- the numbers of a suite are those of its only note
announced : (s : SuiteState) (e : Explanation) (tests : List RunningView) (n : SuiteNoteView) → Contains (last_by s e tests) (SuiteIs n)
    → (count : ℕ) → count ≤ (last_state s e tests).stats.finished_count + (rest_of s e tests).skipped → count ≤ n.stats.finished_count + n.skipped
announced s e tests n here count enough =
    let lacks = λ (x : SuiteNoteView). count - (x.stats.finished_count + x.skipped) in
    let notes = last_by s e tests in
    omega (
      arith,
      last-suite lacks s e tests,
      get_or-le-sum_by (of_suite lacks) notes here.0 (SuiteIs n) here.1,
      ap (of_suite lacks) here.2,
    )

pub clean-whole : CleanEndIsWhole
clean-whole s tests clean =
    let e = explained_of s (length tests) in
    let rest = rest_of s e tests in
    let last = last_state s e tests in
    let all_run : initial_of last rest - last.stats.finished_count ≡ 0 = omega (
      arith,
      clean.all_run,
      same-not_run (last_by s e tests),
      last-suite (λ n. n.not_run) s e tests,
    ) in
    let none = none-left s.test_count rest.skipped last.stats.finished_count rest.left all_run in
    record {
      no_test_lost = omega (
        arith,
        clean.none_failed,
        failed-last s e tests,
        skipped-last s e tests,
        count-of (λ t. was_skipped t.outcome) skipped_weight (λ t. refl) (last_by s e tests),
        none.0,
        lost-or-left e.others_failed (drop e.skipped tests),
        length-take e.skipped tests,
        length-drop e.skipped tests,
      );
      all_announced = λ n here. IfSome_then s.test_count none.1 (announced s e tests n here);
    }
