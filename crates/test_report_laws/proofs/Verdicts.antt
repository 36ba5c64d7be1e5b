-- The last lines of suites with a failed verdict.
use Rattle.std.proofs.Common.{◌≡◌, ◌≢◌, ℕ, List, [], ◌∷◌, ◌++◌, ◌+◌, ◌<◌, ◌≤◌, Bool, true, false, cond, Option, Some, None, refl, ap, arith, inl, inr, length, subst, sym}
use Rattle.std.specs.List.{All, count_by, fold, remove, sum_by}
use Rattle.std.specs.Option.{option_map_or}
use Rattle.std.specs.Prelude.{◌==◌, ◌||◌, if◌then◌else◌}
use Rattle.std.proofs.lemmas.Bool.{cases_lt}
use Rattle.std.proofs.lemmas.List.Elements.{All-get_or}
use Rattle.std.proofs.lemmas.List.Sums.{count_by-le-length, get_or-le-sum_by, sum_by-append, sum_by-cons, sum_by-le-sum_by, sum_by-remove, sum_by-set, sum_by_push}
use Rattle.test_report_events.specs.Event.{AllEndEarly, EventView, SuiteEndView, SuiteStarts, SuiteEnds}
use Rattle.test_report_run_notes.specs.Note.{Fails, NoteView, OutcomeView, TestIs, failed_of}
use Rattle.test_report_laws.proofs.Books.{Holds, IsIn, holds-settled, holds-whole, position-in, with-books}
use Rattle.test_report_laws.proofs.CargoReports.{known-at, only-told, ready}
use Rattle.test_report_laws.proofs.FileEnds.{end-parts, reported_run}
use Rattle.test_report_laws.proofs.RunCauses.{causes-of, weight}
use Rattle.test_report_laws.proofs.Outcomes.{outcome-means}
use Rattle.test_report_laws.proofs.Shown.{early-shows, last-agrees, stray-one}
use Rattle.test_report_laws.proofs.Sound.{all-known, all-sound, failed-rules}
use Rattle.test_report_laws.proofs.Sums.{one-most}
use Rattle.test_report_laws.proofs.Weights.{Keeps, has-number, keeps-line, numbered-end, numbered-line, numbered-ready, numbered-reported, ready-suites, unnumbered, weigh, weight_of}
use Rattle.test_report_laws.specs.Run.{FailedVerdictShows, IsClean, IsSound, contradictions_in, crashed_in, failed_in, failed_verdicts_of, fails_by, is_crash, is_test, says_failed_verdict}
use Rattle.test_report_run.specs.Others.{OthersView}
use Rattle.test_report_run.specs.Over.{EarlyEnd, early_notes, last_notes, nothing_known}
use Rattle.test_report_run.specs.Running.{RunningView}
use Rattle.test_report_run.specs.FileEnd.{after_file, file_notes}
use Rattle.test_report_run.specs.Run.{RunSettings, RunState, Step, after, all_ended_early, early_end, ended_at, ended_early, has_failed, heard, is_cause, learned, notes_at, open_suite, opened, settled_at, started_again, step, stray_suite_notes, suite_at, tests_in, with_suite_at, without_tests}
use Rattle.test_report_run.specs.Said.{no_lines}
use Rattle.test_report_run.specs.Suite.{SuiteState, cancelled_by, has_key, joined_by, outside_start, suite_start, with_line}
use Rattle.test_report_laws.specs.Whole.{all_notes}
use Rattle.test_report_laws.proofs.Types.{Said}

abbrev failing : Option ℕ → Said → Option ℕ → ℕ
failing number said count = cond said.failed_verdict 1 0

-- if there is a failed verdict, there is a failed test, a contradiction, or an open suite with a failed verdict
abbrev Seen : ℕ → List NoteView → RunState → Type 0
Seen n notes r = 0 < n → 0 < count_by is_cause notes + weight_of failing r

abbrev verdict : EventView → ℕ
verdict e = cond (says_failed_verdict e) 1 0

seen-kept : (n : ℕ) (notes : List NoteView) (r : RunState) (e : EventView) → verdict e ≡ 0 → Keeps r (after r e) → Seen n notes r
    → Seen (n + verdict e) (notes ++ notes_at r e) (after r e)
seen-kept n notes r e none keeps i some = omega (arith, i (omega arith), keeps failing, sum_by-append weight notes (notes_at r e))

-- a suite that ends early makes a cause known
crash-fails : (o : OutcomeView) → cond (fails_by is_crash o) 1 0 ≤ cond (has_failed o) 1 0
crash-fails (Fails f) = one-most (is_crash f.kind)
crash-fails o = omega arith

crashes-fail : (notes : List NoteView) → crashed_in notes ≤ failed_in notes
crashes-fail notes =
    sum_by-le-sum_by (λ x. cond (is_test (λ t. fails_by is_crash t.outcome) x) 1 0) (λ x. cond (is_test (λ t. has_failed t.outcome) x) 1 0) notes each
  where
    each : (note : NoteView) → cond (is_test (λ t. fails_by is_crash t.outcome) note) 1 0 ≤ cond (is_test (λ t. has_failed t.outcome) note) 1 0
    each (TestIs t) = crash-fails t.outcome
    each note = omega arith

pub early-cause : (others : OthersView) (how : EarlyEnd) (s : SuiteState) (tests : List RunningView) → (s.number ≡ None → 0 < s.started)
    → 0 < count_by is_cause (early_notes others how s tests)
early-cause others how s tests some =
    let notes = early_notes others how s tests in omega (arith, early-shows others how s tests some, causes-of notes, crashes-fail notes)

-- and so does one with a failed verdict that ends by its last line, unless a test of it failed before
last-cause : (s : SuiteState) (tests : List RunningView) (known : ℕ) → s.number ≢ None → IsSound s → failed_of s.stats ≤ known → s.said.failed_verdict ≡ true
    → 0 < known + count_by is_cause (last_notes s tests)
last-cause s tests known some sound low failed =
    let notes = last_notes s tests in
    elim (cases_lt 0 (contradictions_in notes)) [
      | inl more ↦ omega (arith, causes-of notes)
      | inr none ↦ let agrees = (last-agrees s tests some sound).0 (omega arith) in omega (arith, agrees.verdict.0 failed, causes-of notes)
    ]

-- the first line of a suite
seen-first : (n : ℕ) (notes : List NoteView) (r : RunState) (key : Option (List ℕ)) (count : Option ℕ) (at : Option ℕ) → weight_of unnumbered r ≡ 0
    → Seen n notes r → IsIn r.suites at
    → let t = option_map_or (started_again r key count) at (step (opened r key count) []) in Seen (n + 0) (notes ++ t.notes) (learned t.run t.notes)
seen-first n notes r key count None numbered i in' some =
    let start = suite_start (Some (r.suites_started + 1)) key r.heading count r.others in
    omega (arith, i (omega arith), sum_by_push (weigh failing) r.suites start, sum_by-append weight notes [])
seen-first n notes r (Some key) count (Some at) numbered i in' some =
    let s = heard r (joined_by (suite_at r (Some at)) count) in
    omega (arith, i (omega arith), sum_by-set (weigh failing) r.suites at s r.outside in', sum_by-append weight notes [])
seen-first n notes r None count (Some at) numbered i in' some =
    let s = suite_at r (Some at) in
    let tests = tests_in r s in
    let own = cancelled_by r.cancel s in
    omega (
      arith,
      early-cause r.others nothing_known own tests (λ zero. absurd (has-number r at numbered in' zero)),
      sum_by-append weight notes (early_notes r.others nothing_known own tests),
    )

-- a last line of a suite
still-shown : (n known left rest more : ℕ) (old e : Bool) → (0 < n → 0 < known + left) → rest + cond old 1 0 ≡ left
    → ((old || e) ≡ true → 0 < known + more) → 0 < n + cond e 1 0 → 0 < known + more + rest
still-shown n known left rest more old e before parts last some = grind arith

-- the open suites are sound, and their failed tests are known
abbrev AreKnown : List NoteView → RunState → Type 0
AreKnown notes r = All IsSound r.suites × All (λ s. failed_of s.stats ≤ failed_in notes) r.suites

known-ready : (notes : List NoteView) (r : RunState) (e : EventView) → Holds failed-rules notes r
    → AreKnown (notes ++ (settled_at r e).notes) (ready r e)
known-ready notes r e holds =
    let now = holds-settled failed-rules notes r e holds in
    ((all-sound _ _ now).1, all-known _ _ now)

seen-ready : (n : ℕ) (notes : List NoteView) (r : RunState) (e : EventView) → Seen n notes r → Seen n (notes ++ (settled_at r e).notes) (ready r e)
seen-ready n notes r e i some = omega (
  arith,
  i some,
  sum_by-append weight notes (settled_at r e).notes,
  ap (λ (suites : List SuiteState). sum_by (weigh failing) suites) (ready-suites r e),
)

seen-over : (n : ℕ) (notes : List NoteView) (r : RunState) (e : SuiteEndView) (at : ℕ) (over : Bool) → AreKnown notes r
    → weight_of unnumbered r ≡ 0 → Seen n notes r → at < length r.suites
    → let s = with_line (suite_at r (Some at)) e in
    let t = if over then step (without_tests (record r { suites = remove r.suites at }) s) (last_notes (cancelled_by r.cancel s) (tests_in r s))
    else step (with_suite_at r (Some at) s) [] in
    Seen (n + cond e.failed_verdict 1 0) (notes ++ t.notes) (learned t.run t.notes)
seen-over n notes r e at true holds numbered i in' some =
    let old = suite_at r (Some at) in
    let s = with_line old e in
    let tests = tests_in r s in
    let sound = All-get_or IsSound r.suites at r.outside in' holds.0 in
    let known : failed_of old.stats ≤ count_by is_cause notes = omega (arith, holds.1 at r.outside in', causes-of notes) in
    let last = last-cause (cancelled_by r.cancel s) tests (count_by is_cause notes) (has-number r at numbered in')
    record { retried = sound.retried; passed = sound.passed } known in
    omega (
      arith,
      still-shown n _ _ _ _ old.said.failed_verdict e.failed_verdict i (sum_by-remove (weigh failing) r.suites at r.outside in') last some,
      sum_by-append weight notes (last_notes (cancelled_by r.cancel s) tests),
    )
seen-over n notes r e at false holds numbered i in' some =
    let s = with_line (suite_at r (Some at)) e in
    grind (
      arith,
      i,
      get_or-le-sum_by (weigh failing) r.suites at r.outside in',
      sum_by-set (weigh failing) r.suites at (heard r s) r.outside in',
      sum_by-append weight notes [],
    )

seen-last : (n : ℕ) (notes : List NoteView) (r : RunState) (e : SuiteEndView) (at : Option ℕ) → open_suite r e.key ≡ at → AreKnown notes r
    → weight_of unnumbered r ≡ 0 → Seen n notes r
    → let t = option_map_or (ended_at r e) at (step r (stray_suite_notes e)) in
    Seen (n + cond e.failed_verdict 1 0) (notes ++ t.notes) (learned t.run t.notes)
seen-last n notes r e None is holds numbered i some = grind (
  arith,
  i,
  stray-one r e None refl,
  causes-of (stray_suite_notes e),
  sum_by-append weight notes (stray_suite_notes e),
)
seen-last n notes r e (Some at) is holds numbered i some =
    let in' = position-in (has_key e.key) r.suites (Some at) is in
    seen-over n notes r e at ((with_line (suite_at r (Some at)) e).open_lines == 0) holds numbered i in' some

-- all that is open ends early: each suite makes a cause known
early-causes : (how : EarlyEnd) (t : Step) (suites : List SuiteState) → sum_by (weigh unnumbered) suites ≡ 0
    → count_by is_cause t.notes + length suites ≤ count_by is_cause (fold (ended_early how) t suites).notes
early-causes how t [] none = omega arith
early-causes how t (s ∷ suites) none =
    let tests = tests_in t.run s in
    let own = cancelled_by t.run.cancel s in
    let parts = sum_by-cons (weigh unnumbered) s suites in
    omega (
      arith,
      early-cause t.run.others how own tests (λ zero. absurd (omega (arith, ap (λ n. unnumbered n no_lines None) zero))),
      sum_by-append weight t.notes (early_notes t.run.others how own tests),
      early-causes how (ended_early how t s) suites (omega arith),
    )

pub all-causes : (how : EarlyEnd) (r : RunState) → weight_of unnumbered r ≡ 0 → length r.suites ≤ count_by is_cause (all_ended_early how r).notes
all-causes how r numbered =
    let none = step (record r { suites = [] }) [] in
    let ended = fold (ended_early how) none r.suites in
    let tests = tests_in (record (ended.run) { outside = outside_start }) r.outside in
    let last = early_notes ended.run.others how (cancelled_by ended.run.cancel r.outside) tests in
    omega (arith, early-causes how none r.suites numbered, sum_by-append weight ended.notes last)

-- tests that started outside of a suite make a cause known, too
pub outside-shows : (how : EarlyEnd) (r : RunState) → 0 < r.outside.started → 0 < count_by is_cause (all_ended_early how r).notes
outside-shows how r some =
    let ended = fold (ended_early how) (step (record r { suites = [] }) []) r.suites in
    let tests = tests_in (record (ended.run) { outside = outside_start }) r.outside in
    let own = cancelled_by ended.run.cancel r.outside in
    let last = early_notes ended.run.others how own tests in
    omega (arith, early-cause ended.run.others how own tests (λ zero. some), sum_by-append weight ended.notes last)

seen-all : (n : ℕ) (notes : List NoteView) (r : RunState) (how : EarlyEnd) → weight_of unnumbered r ≡ 0 → Seen n notes r
    → let t = all_ended_early how r in Seen (n + 0) (notes ++ t.notes) (learned t.run t.notes)
seen-all n notes r how numbered i some = omega (
  arith,
  i (omega arith),
  all-causes how r numbered,
  count_by-le-length (λ s. s.said.failed_verdict) r.suites,
  sum_by-append weight notes (all_ended_early how r).notes,
)

-- a line
seen-line : (n : ℕ) (notes : List NoteView) (r : RunState) (e : EventView) → Holds failed-rules notes r → weight_of unnumbered r ≡ 0 → Seen n notes r
    → Seen (n + verdict e) (notes ++ notes_at r e) (after r e)
seen-line n notes r (SuiteStarts key count) holds numbered i =
    let line = SuiteStarts key count in
    let now = ready r line in
    known-at (λ known. Seen (n + verdict line) known (after r line)) notes r line
    (seen-first n (notes ++ (settled_at r line).notes) now key count (open_suite now key) (numbered-ready r line numbered) (seen-ready n notes r line i)
    (position-in (has_key key) now.suites (open_suite now key) refl))
seen-line n notes r (SuiteEnds e) holds numbered i =
    let line = SuiteEnds e in
    let now = ready r line in
    known-at (λ known. Seen (n + verdict line) known (after r line)) notes r line
    (seen-last n (notes ++ (settled_at r line).notes) now e (open_suite now e.key) refl (known-ready notes r line holds) (numbered-ready r line numbered)
    (seen-ready n notes r line i))
seen-line n notes r (AllEndEarly end) holds numbered i = seen-all n notes r (early_end r end) numbered i
seen-line n notes r e holds numbered i = seen-kept n notes r e refl (keeps-line r e refl) i

-- and so do all that are open at the end of a file
pub end-causes : (r : RunState) → weight_of unnumbered r ≡ 0 → length r.suites ≤ count_by is_cause (file_notes r)
end-causes r numbered = omega (
  arith,
  all-causes nothing_known (reported_run r) (numbered-reported r numbered),
  ap (λ (x : RunState). length x.suites) (only-told r).run_is,
  end-parts weight r,
)

pub outside-cause : (r : RunState) → 0 < r.outside.started → 0 < count_by is_cause (file_notes r)
outside-cause r some =
    let started : 0 < (reported_run r).outside.started = subst (λ (x : RunState). 0 < x.outside.started) (sym (only-told r).run_is) some in
    omega (arith, outside-shows nothing_known (reported_run r) started, end-parts weight r)

seen-end : (n : ℕ) (notes : List NoteView) (r : RunState) → weight_of unnumbered r ≡ 0 → Seen n notes r → Seen n (notes ++ file_notes r) (after_file r)
seen-end n notes r numbered i some = omega (
  arith,
  i some,
  end-causes r numbered,
  count_by-le-length (λ s. s.said.failed_verdict) r.suites,
  sum_by-append weight notes (file_notes r),
)

abbrev SeenNumbered : ℕ → List NoteView → RunState → Type 0
SeenNumbered n notes r = (weight_of unnumbered r ≡ 0) × Seen n notes r

pub unclean : (settings : RunSettings) (files : List (List EventView)) → 0 < failed_verdicts_of files → IsClean (all_notes settings files) → ⊥
unclean settings files some clean =
    let seen = with-books failed-rules SeenNumbered verdict (λ n notes r e holds i. (numbered-line r e i.0, seen-line n notes r e holds i.0 i.1))
    (λ n notes r holds i. (numbered-end r, seen-end n notes r i.0 i.1)) settings (refl, λ some. absurd (omega arith)) files in
    omega (
      arith,
      seen.1 some,
      clean.none_failed,
      clean.none_contradict,
      causes-of (all_notes settings files),
      ap (λ (suites : List SuiteState). sum_by (weigh failing) suites) (holds-whole failed-rules settings files).suites,
    )

pub verdict-shows : FailedVerdictShows
verdict-shows settings files some =
    let means = outcome-means settings files in
    ((λ h. unclean settings files some (means.success.0 h).0), (λ h. unclean settings files some (means.no_tests.0 h).0))
