-- At least as many tests are counted as were announced.
use Rattle.std.proofs.Common.{◌≡◌, ◌≤◌, ◌<◌, ◌+◌, ℕ, List, [], ◌∷◌, ◌++◌, Bool, true, false, Option, Some, None, refl, ap, arith, length}
use Rattle.std.specs.List.{fold, remove, sum_by}
use Rattle.std.specs.Option.{option_map_or}
use Rattle.std.specs.Prelude.{◌-◌, ◌==◌, if◌then◌else◌, max, nat_lt}
use Rattle.std.proofs.lemmas.List.Sums.{sum_by-append, sum_by-cons, sum_by-remove, sum_by-set, sum_by_push}
use Rattle.run_events_stats.specs.Outcome.{combined}
use Rattle.run_events_stats.specs.declared.outcome.RunFailureStep.TheVariants as step
use Rattle.run_events_stats.specs.declared.outcome.run_outcome.RunOutcome.TheVariants as outcome
use Rattle.test_report_events.specs.Event.{AllEndEarly, EventView, SuiteEndView, SuiteStarts, SuiteEnds}
use Rattle.test_report_run_notes.specs.Note.{NoteView}
use Rattle.test_report_run_notes.specs.declared.note.RunEnd.{RunEnd}
use Rattle.test_report_laws.proofs.Books.{IsIn, position-in}
use Rattle.test_report_laws.proofs.CargoReports.{known-at, only-told, ready}
use Rattle.test_report_laws.proofs.Counters.{early-suite, last-suite, of_suite, sum-of}
use Rattle.test_report_laws.proofs.EndSums.{early_rest, last_by}
use Rattle.test_report_laws.proofs.FileEnds.{end-parts, reported_run}
use Rattle.test_report_laws.proofs.OverRuns.{over-run}
use Rattle.test_report_laws.proofs.Tallies.{run-sums}
use Rattle.test_report_laws.proofs.Weights.{keeps-line, ready-suites, weigh, weight_of}
use Rattle.test_report_run.specs.Running.{RunningView}
use Rattle.test_report_run.specs.Others.{OthersView}
use Rattle.test_report_run.specs.Over.{EarlyEnd, crashed_of, early_notes, early_state, explained_of, last_notes, last_state, nothing_known, rest_of, stopped_of}
use Rattle.test_report_run.specs.FileEnd.{file_notes}
use Rattle.test_report_run.specs.Run.{RunState, Step, after, all_ended_early, early_end, ended_at, ended_early, heard, learned, tests_in, notes_at, open_suite, opened, run_start, settled_at, started_again, step, stray_suite_notes, suite_at, with_suite_at, without_tests}
use Rattle.test_report_run.specs.Said.{sum_of}
use Rattle.test_report_laws.specs.Status.{AnnouncedAreCounted, announced_by}
use Rattle.test_report_run.specs.Suite.{SuiteState, cancelled_by, has_key, joined_by, outside_start, suite_start, with_line}
use Rattle.test_report_laws.specs.Whole.{all_notes, run_after_files}
use Rattle.test_report_laws.proofs.Types.{Explanation, Said}

-- how many tests an open suite announces
abbrev announcing : Option ℕ → Said → Option ℕ → ℕ
announcing number said count = option_map_or (λ n. n) count 0

-- how many tests of a suite that is over finished, were skipped or were not run
abbrev reach : NoteView → ℕ
reach note = of_suite (λ s. s.stats.finished_count + s.skipped + s.not_run) note

-- a suite that is over has as many as it announces
covers : (count : Option ℕ) (skipped finished left : ℕ) → option_map_or (λ n. n) count 0
    ≤ finished + skipped + (option_map_or (λ c. max (c - skipped) (finished + left)) count (finished + left) - finished)
covers None skipped finished left = omega arith
covers (Some c) skipped finished left = omega arith

early-covers : (others : OthersView) (how : EarlyEnd) (s : SuiteState) (tests : List RunningView)
    → weigh announcing s ≤ sum_by reach (early_notes others how s tests)
early-covers others how s tests =
    let crashed = crashed_of s how tests in
    let stopped = stopped_of s how tests in
    let last = early_state s crashed in
    let rest = early_rest s stopped in
    omega (
      arith,
      early-suite (λ n. n.stats.finished_count + n.skipped + n.not_run) others how.end s crashed stopped,
      covers s.test_count rest.skipped last.stats.finished_count rest.left,
    )

last-covers : (s : SuiteState) (e : Explanation) (tests : List RunningView) → weigh announcing s ≤ sum_by reach (last_by s e tests)
last-covers s e tests =
    let last = last_state s e tests in
    let rest = rest_of s e tests in
    omega (
      arith,
      last-suite (λ n. n.stats.finished_count + n.skipped + n.not_run) s e tests,
      covers s.test_count rest.skipped last.stats.finished_count rest.left,
    )

-- as many tests are in notes or in open suites as were announced
abbrev Covered : ℕ → List NoteView → RunState → Type 0
Covered n notes r = n ≤ weight_of announcing r + sum_by reach notes

both-announced : (a b : Option ℕ) → option_map_or (λ n. n) (sum_of a b) 0 ≡ option_map_or (λ n. n) a 0 + option_map_or (λ n. n) b 0
both-announced None b = omega arith
both-announced (Some a) None = omega arith
both-announced (Some a) (Some b) = refl

covered-first : (n : ℕ) (notes : List NoteView) (r : RunState) (key : Option (List ℕ)) (count : Option ℕ) (at : Option ℕ) → IsIn r.suites at
    → Covered n notes r
    → let t = option_map_or (started_again r key count) at (step (opened r key count) []) in
    Covered (n + option_map_or (λ n. n) count 0) (notes ++ t.notes) (learned t.run t.notes)
covered-first n notes r key count None in' i =
    let start = suite_start (Some (r.suites_started + 1)) key r.heading count r.others in
    omega (arith, i, sum_by_push (weigh announcing) r.suites start, sum_by-append reach notes [])
covered-first n notes r (Some key) count (Some at) in' i =
    let s = suite_at r (Some at) in
    omega (
      arith,
      i,
      both-announced s.test_count count,
      sum_by-set (weigh announcing) r.suites at (heard r (joined_by s count)) r.outside in',
      sum_by-append reach notes [],
    )
covered-first n notes r None count (Some at) in' i =
    let s = suite_at r (Some at) in
    let tests = tests_in r s in
    let own = cancelled_by r.cancel s in
    let start = suite_start (Some (r.suites_started + 1)) None r.heading count r.others in
    omega (
      arith,
      i,
      early-covers r.others nothing_known own tests,
      sum_by_push (weigh announcing) (remove r.suites at) start,
      sum_by-remove (weigh announcing) r.suites at r.outside in',
      sum_by-append reach notes (early_notes r.others nothing_known own tests),
    )

covered-over : (n : ℕ) (notes : List NoteView) (r : RunState) (e : SuiteEndView) (at : ℕ) (over : Bool) → at < length r.suites → Covered n notes r
    → let s = with_line (suite_at r (Some at)) e in
    let t = if over then step (without_tests (record r { suites = remove r.suites at }) s) (last_notes (cancelled_by r.cancel s) (tests_in r s))
    else step (with_suite_at r (Some at) s) [] in
    Covered (n + 0) (notes ++ t.notes) (learned t.run t.notes)
covered-over n notes r e at true in' i =
    let s = with_line (suite_at r (Some at)) e in
    let tests = tests_in r s in
    omega (
      arith,
      i,
      last-covers (cancelled_by r.cancel s) (explained_of s (length tests)) tests,
      sum_by-remove (weigh announcing) r.suites at r.outside in',
      sum_by-append reach notes (last_notes (cancelled_by r.cancel s) tests),
    )
covered-over n notes r e at false in' i =
    let s = with_line (suite_at r (Some at)) e in
    omega (arith, i, sum_by-set (weigh announcing) r.suites at (heard r s) r.outside in', sum_by-append reach notes [])

covered-last : (n : ℕ) (notes : List NoteView) (r : RunState) (e : SuiteEndView) (at : Option ℕ) → IsIn r.suites at → Covered n notes r
    → let t = option_map_or (ended_at r e) at (step r (stray_suite_notes e)) in Covered (n + 0) (notes ++ t.notes) (learned t.run t.notes)
covered-last n notes r e None in' i = omega (arith, i, sum_by-append reach notes (stray_suite_notes e))
covered-last n notes r e (Some at) in' i = covered-over n notes r e at ((with_line (suite_at r (Some at)) e).open_lines == 0) in' i

covered-other : (n : ℕ) (notes : List NoteView) (r : RunState) (e : EventView) → announced_by e ≡ 0 → weight_of announcing (after r e) ≡ weight_of announcing r
    → Covered n notes r → Covered (n + announced_by e) (notes ++ notes_at r e) (after r e)
covered-other n notes r e none keeps i = omega (arith, none, keeps, i, sum_by-append reach notes (notes_at r e))

covered-ready : (n : ℕ) (notes : List NoteView) (r : RunState) (e : EventView) → Covered n notes r
    → Covered n (notes ++ (settled_at r e).notes) (ready r e)
covered-ready n notes r e i = omega (
  arith,
  i,
  sum_by-append reach notes (settled_at r e).notes,
  ap (λ (suites : List SuiteState). sum_by (weigh announcing) suites) (ready-suites r e),
)

-- suites that end early, and the tests outside of a suite
covered-ends : (how : EarlyEnd) (t : Step) (suites : List SuiteState)
    → sum_by (weigh announcing) suites + sum_by reach t.notes ≤ sum_by reach (fold (ended_early how) t suites).notes
covered-ends how t [] = omega arith
covered-ends how t (s ∷ suites) =
    let tests = tests_in t.run s in
    let own = cancelled_by t.run.cancel s in
    omega (
      arith,
      early-covers t.run.others how own tests,
      sum_by-cons (weigh announcing) s suites,
      sum_by-append reach t.notes (early_notes t.run.others how own tests),
      covered-ends how (ended_early how t s) suites,
    )

covered-all : (how : EarlyEnd) (r : RunState) → weight_of announcing r ≤ sum_by reach (all_ended_early how r).notes
covered-all how r =
    let none = step (record r { suites = [] }) [] in
    let ended = fold (ended_early how) none r.suites in
    let tests = tests_in (record (ended.run) { outside = outside_start }) r.outside in
    omega (
      arith,
      covered-ends how none r.suites,
      sum_by-append reach ended.notes (early_notes ended.run.others how (cancelled_by ended.run.cancel r.outside) tests),
    )

covered-line : (n : ℕ) (notes : List NoteView) (r : RunState) (e : EventView) → Covered n notes r
    → Covered (n + announced_by e) (notes ++ notes_at r e) (after r e)
covered-line n notes r (SuiteStarts key count) i =
    let line = SuiteStarts key count in
    let now = ready r line in
    known-at (λ known. Covered (n + announced_by line) known (after r line)) notes r line
    (covered-first n (notes ++ (settled_at r line).notes) now key count (open_suite now key)
    (position-in (has_key key) now.suites (open_suite now key) refl) (covered-ready n notes r line i))
covered-line n notes r (SuiteEnds e) i =
    let line = SuiteEnds e in
    let now = ready r line in
    known-at (λ known. Covered (n + announced_by line) known (after r line)) notes r line
    (covered-last n (notes ++ (settled_at r line).notes) now e (open_suite now e.key)
    (position-in (has_key e.key) now.suites (open_suite now e.key) refl) (covered-ready n notes r line i))
covered-line n notes r (AllEndEarly end) i =
    let e = AllEndEarly end in omega (arith, i, covered-all (early_end r end) r, sum_by-append reach notes (notes_at r e))
covered-line n notes r e i = covered-other n notes r e refl (keeps-line r e refl announcing) i

-- the end of a file
covered-end : (n : ℕ) (notes : List NoteView) (r : RunState) → Covered n notes r → n ≤ sum_by reach (notes ++ file_notes r)
covered-end n notes r i = omega (
  arith,
  i,
  covered-all nothing_known (reported_run r),
  ap (weight_of announcing) (only-told r).run_is,
  end-parts reach r,
  sum_by-append reach notes (file_notes r),
)

-- the sums of a run
abbrev reached : RunEnd → ℕ
reached e = e.stats.finished_count + e.skipped + e.not_run

ending-reached : (e : RunEnd) (beyond contradict : Bool)
    → reached (if beyond then record e { outcome = outcome.Failed step.Test }
    else if contradict then record e { outcome = combined e.outcome (outcome.Cancelled step.Test) }
    else e)
    ≡ reached e
ending-reached e true contradict = refl
ending-reached e false true = refl
ending-reached e false false = refl

pub announced-counted : AnnouncedAreCounted
announced-counted settings files =
    let notes = all_notes settings files in
    let r = run_after_files (run_start settings) files in
    omega (
      arith,
      over-run Covered (λ n notes r. n ≤ sum_by reach notes) announced_by (λ n notes r i. omega (arith, i)) covered-line covered-end settings
          (omega arith) files,
      sum-of reached (λ s. s.stats.finished_count + s.skipped + s.not_run) (λ e s. omega arith) refl notes,
      ap (λ s. reached s.0) (run-sums settings files),
      ending-reached r.totals (nat_lt r.cancels r.contradictions) (nat_lt 0 r.contradictions),
    )
