-- What becomes known if lines contradict each other.
use Rattle.std.proofs.Common.{◌≡◌, ◌≢◌, ◌∙◌, ℕ, List, [], ◌∷◌, ◌+◌, ◌<◌, Bool, true, false, cond, Option, Some, None, refl, arith, length, subst, sym, take}
use Rattle.std.specs.List.{sum_by}
use Rattle.std.specs.Option.{option_map_or}
use Rattle.std.specs.Prelude.{◌==◌, ◌↔◌, IfSome, IsTrue, if◌then◌else◌, nat_lt, not}
use Rattle.std.proofs.lemmas.Bool.Decides.{nat_tests}
use Rattle.std.proofs.lemmas.Bool.{or_from, or_parts}
use Rattle.test_report_events.specs.Event.{SuiteEndView}
use Rattle.test_report_events.specs.declared.program.ProgramEnd.{ProgramEnd}
use Rattle.test_report_run_notes.specs.Note.{Contradicts, HasNoEnd, NoteView, StraySuiteEnds, failed_of}
use Rattle.test_report_run_notes.specs.declared.note.SaidNumbers.{SaidNumbers}
use Rattle.test_report_laws.proofs.Counters.{after-last, of_test}
use Rattle.test_report_laws.proofs.EndSums as ends
use Rattle.test_report_laws.proofs.EndSums.{last_by}
use Rattle.test_report_laws.proofs.Sums.{sum-none}
use Rattle.test_report_laws.proofs.Tallies.{count-of, crashed_weight, finished-counts, finished-of, finished_weight, passed-counts, passed_weight}
use Rattle.test_report_run.specs.Running.{RunningView}
use Rattle.test_report_run.specs.LastLine.{is_contradicted}
use Rattle.test_report_laws.specs.Run.{Agrees, EarlyEndShows, LastLineAgrees, StrayEndShows, contradictions_in, crashed_in, failed_in, fails_by, has_passed, is_crash, passed_in}
use Rattle.test_report_run.specs.Others.{OthersView}
use Rattle.test_report_run.specs.Over.{crash_of, crashed_of, early_by, early_contradictions, explained_of, failed_note, flaky_note, last_contradiction, last_state, lost, skipped_note, stopped_note, stopped_of}
use Rattle.test_report_run.specs.Run.{RunState, counts_tests, ended_at, is_contradiction, open_suite, step, stray_suite_notes}
use Rattle.test_report_run.specs.Said.{numbers_of}
use Rattle.test_report_run.specs.Suite.{SuiteState}
use Rattle.test_report_laws.proofs.Types.{Explanation}

abbrev weight : NoteView → ℕ
weight note = cond (is_contradiction note) 1 0

pub one-if : (b : Bool) (note : NoteView) → weight note ≡ 1 → sum_by weight (if b then note ∷ [] else []) ≡ cond b 1 0
one-if b note h = grind (arith, h)

-- the contradiction of a suite that has a number
one-contradiction : (s : SuiteState) → s.number ≢ None
    → sum_by weight (last_contradiction s) ≡ cond (is_contradicted (numbers_of s.said) s.stats.passed (failed_of s.stats)) 1 0
one-contradiction s some = grind (arith, nat_tests)

of-last : (s : SuiteState) (e : Explanation) (tests : List RunningView) → s.number ≢ None
    → contradictions_in (last_by s e tests)
    ≡ cond (is_contradicted (numbers_of s.said) (last_state s e tests).stats.passed (failed_of (last_state s e tests).stats)) 1 0
of-last s e tests some = omega (
  arith,
  ends.of-last-all weight (λ suite n of. refl) s e tests,
  sum-none (λ n. weight (failed_note s HasNoEnd n)) (λ n. refl) (lost e tests),
  sum-none (λ f. weight (flaky_note s e.flaky_failed f)) (λ f. grind arith) s.flaky,
  sum-none (λ n. weight (skipped_note s n)) (λ n. refl) (take e.skipped tests),
  one-contradiction (last_state s e tests) some,
)

-- a last line agrees with the tests where it does not contradict them
numbers-agree : (o : Option ℕ) (n : ℕ) → (option_map_or (λ k. not (k == n)) o false ≡ false) ↔ IfSome o (λ k. k ≡ n)
numbers-agree None n = ((λ _. tt), (λ _. refl))
numbers-agree (Some k) n = ((λ h. grind (arith, nat_tests)), (λ h. grind (arith, nat_tests)))

verdicts-agree : (verdict : Bool) (failed : ℕ) → ((if verdict then nat_lt failed 1 else nat_lt 0 failed) ≡ false) ↔ (IsTrue verdict ↔ (0 < failed))
verdicts-agree verdict failed =
    ((λ h. ((λ is. grind (arith, nat_tests)), (λ some. grind (arith, nat_tests)))), (λ h. grind (arith, nat_tests, h.0, h.1)))

agrees : (said : SaidNumbers) (passed failed : ℕ) → (is_contradicted said passed failed ≡ false) ↔ Agrees said passed failed
agrees said passed failed =
    let verdict = verdicts-agree said.failed_verdict failed in
    let p = numbers-agree said.passed passed in
    let f = numbers-agree said.failed failed in (
      (λ h.
          let parts = or_parts _ _ h in
          let others = or_parts _ _ parts.1 in
          record { verdict = verdict.0 parts.0; passed_number = p.0 others.0; failed_number = f.0 others.1 }),
      (λ h. or_from _ _ (verdict.1 h.verdict) (or_from _ _ (p.1 h.passed_number) (f.1 h.failed_number))),
    )

one-false : (b : Bool) → (◌≡◌ {A = ℕ} (cond b 1 0) 0) ↔ (b ≡ false)
one-false b = ((λ h. grind arith), (λ h. grind arith))

pub last-agrees : LastLineAgrees
last-agrees s tests some sound =
    let e = explained_of s (length tests) in
    let t = last_state s e tests in
    let said = numbers_of s.said in
    let notes = last_by s e tests in
    let passed : t.stats.passed ≡ s.stats.passed + passed_in notes = omega (
      arith,
      after-last (λ x. x.passed) passed_weight refl passed-counts (λ output n slow h. refl) (λ reason n slow. refl) s e tests sound.retried,
      count-of (λ x. has_passed x.outcome) passed_weight (λ x. refl) notes,
    ) in
    let finished : t.stats.finished_count ≡ s.stats.finished_count + (passed_in notes + failed_in notes) = omega (
      arith,
      after-last (λ x. x.finished_count) finished_weight refl finished-counts (λ output n slow h. refl) (λ reason n slow. refl) s e tests sound.retried,
      finished-of notes,
    ) in
    let failed : failed_of t.stats ≡ failed_of s.stats + failed_in notes = omega (arith, sound.passed) in
    let count = of-last s e tests some in
    let agree = agrees said t.stats.passed (failed_of t.stats) in (
      (λ none. rw (← passed, ← failed) (agree.0 ((one-false _).0 (sym count ∙ none)))),
      (λ h. count ∙ (one-false _).1 (agree.1
          (subst (Agrees said t.stats.passed) (sym failed) (subst (λ p. Agrees said p (failed_of s.stats + failed_in notes)) (sym passed) h)))),
    )

-- the contradictions of a suite that ends early
of-early : (others : OthersView) (end : Option ProgramEnd) (s : SuiteState) (crashed stopped : List RunningView)
    → contradictions_in (early_by others end s crashed stopped) ≡ sum_by weight (early_contradictions s end (length crashed))
of-early others end s crashed stopped = omega (
  arith,
  ends.of-early-all weight (λ suite n of. refl) others end s crashed stopped,
  ends.sum-crashed weight false s (λ c n. refl) (crash_of others end s (length crashed)) crashed,
  sum-none (λ test. weight (stopped_note s test)) (λ test. refl) stopped,
  sum-none (λ f. weight (flaky_note s false f)) (λ f. refl) s.flaky,
)

crashes : (others : OthersView) (end : Option ProgramEnd) (s : SuiteState) (crashed stopped : List RunningView)
    → crashed_in (early_by others end s crashed stopped) ≡ length crashed
crashes others end s crashed stopped = omega (
  arith,
  count-of (λ t. fails_by is_crash t.outcome) crashed_weight (λ t. refl) (early_by others end s crashed stopped),
  ends.by-early (of_test crashed_weight) (λ d. refl) (λ suite n of. refl) true others end s crashed stopped (λ c name. refl) (λ name. refl) (λ f. refl),
)

-- no test crashed: the end of a suite with a number is a contradiction, and so are tests outside of a suite
shows : (s : SuiteState) (end : Option ProgramEnd) → (s.number ≡ None → 0 < s.started) → sum_by weight (early_contradictions s end 0) ≡ 1
shows s end some = grind (arith, nat_tests)

by-crashed : (others : OthersView) (end : Option ProgramEnd) (s : SuiteState) (crashed stopped : List RunningView) → (s.number ≡ None → 0 < s.started)
    → 0 < crashed_in (early_by others end s crashed stopped) + contradictions_in (early_by others end s crashed stopped)
by-crashed others end s [] stopped some = omega (arith, of-early others end s [] stopped, shows s end some)
by-crashed others end s (test ∷ crashed) stopped some = omega (arith, crashes others end s (test ∷ crashed) stopped)

pub early-shows : EarlyEndShows
early-shows others how s tests some = by-crashed others how.end s (crashed_of s how tests) (stopped_of s how tests) some

-- a last line of a suite that is not open
pub stray-one : (r : RunState) (e : SuiteEndView) (at : Option ℕ) → at ≡ None
    → contradictions_in (option_map_or (ended_at r e) at (step r (stray_suite_notes e))).notes ≡ (if counts_tests e then 1 else 0)
stray-one r e None h = one-if (counts_tests e) (Contradicts (StraySuiteEnds e.key e.failed_verdict)) refl
stray-one r e (Some at) h = absurd (cc)

pub stray-shows : StrayEndShows
stray-shows r e h = stray-one r e (open_suite r e.key) h
