-- What is said of tests and what is said of suites add up over a run, if they do at each step of a suite.
use Rattle.std.proofs.Common.{◌≡◌, ◌∙◌, ℕ, List, [], ◌∷◌, ◌++◌, ◌+◌, ◌<◌, ◌≤◌, Bool, true, false, cond, Option, Some, None, refl, ap, arith, drop, length, subst, suc, sym, take}
use Rattle.std.specs.List.{All, count_by, fold, position, remove, sum_by}
use Rattle.std.specs.Option.{option_map_or, option_or}
use Rattle.std.specs.Prelude.{◌-◌, ◌==◌, if◌then◌else◌, option_and_then}
use Rattle.std.proofs.lemmas.Bool.{cond_both, eqb-false}
use Rattle.std.proofs.lemmas.List.Elements.{All-append, All-cons, All-drop, All-get_or, All-head, All-nil, All-push, All-set, All-tail, All-take}
use Rattle.std.proofs.lemmas.List.Quantifiers.{position-Some}
use Rattle.std.proofs.lemmas.List.Sums.{fold-append, sum_by-append, sum_by-cons, sum_by-remove, sum_by-set, sum_by_push}
use Rattle.run_events_stats.specs.Counters.{counters_of, nothing_known}
use Rattle.run_events_stats.specs.declared.stats.RunStats.{RunStats}
use Rattle.test_report_events.specs.Event.{EventView, SuiteEndView, TestEndView, SuiteStarts, SuiteEnds, TestStarts, TestEnds, TestIsSlow, OtherLine, HeadingLine, CargoFails, Prints, DamagedLine, CommandStarts, Cancels, CommandOver, AllEndEarly, ProgramContradicts}
use Rattle.test_report_events.specs.declared.event.TestResult.{TestResult}
use Rattle.test_report_events.specs.declared.event.TestResult.TheVariants.{Ok, Failed, Ignored}
use Rattle.test_report_events.specs.declared.program.ProgramEnd.{ProgramEnd}
use Rattle.test_report_run_notes.specs.Note.{ContradictionView, Contradicts, IsDamaged, OfProgram, NoteView, StrayEnds, StraySuiteEnds}
use Rattle.test_report_run_notes.specs.declared.note.RunEnd.{RunEnd}
use Rattle.test_report_laws.proofs.CargoReports.{OnlyReports, only-cargo, only-settled_at, only-told, reports-none}
use Rattle.test_report_laws.proofs.EndSums.{last_by}
use Rattle.test_report_laws.proofs.FileEnds.{reported_run, suites-alone, suites_over}
use Rattle.test_report_laws.proofs.OverRuns.{over-run, up-to-line}
use Rattle.test_report_laws.proofs.Sums.{sum-if-none}
use Rattle.test_report_run.specs.Ended.{after_end, end_notes}
use Rattle.test_report_run.specs.Others.{OthersView, after_failure}
use Rattle.test_report_run.specs.Over.{EarlyEnd, crashed_of, early_by, early_notes, explained_of, last_notes, stopped_of}
use Rattle.test_report_run.specs.Over as ending
use Rattle.test_report_run.specs.Prints.{cut}
use Rattle.test_report_run.specs.FileEnd.{after_file, file_notes, reports_told}
use Rattle.test_report_run.specs.Run.{RunSettings, RunState, Step, after, all_ended_early, cargo_fails, counts_tests, early_end, ended_at, ended_early, heard, is_contradiction, learned, marked, notes_at, open_suite, opened, place_of_number, run_start, running_ends, running_over, settled_at, slow_at, started_again, step, stray_ends, stray_over, stray_suite_notes, stray_test, suite_at, suite_place, tests_in, told, told_at, unless_cancelled, with_note, with_suite_at, without_tests}
use Rattle.test_report_run.specs.Running.{RunningView, is_same, place_of_end, running_at, with_slow}
use Rattle.test_report_run.specs.Name.{before_dollar}
use Rattle.test_report_run.specs.Suite.{FlakyView, OverView, SuiteState, cancelled_by, has_key, joined_by, named, outside_start, suite_start, with_line, with_start}
use Rattle.test_report_laws.proofs.Types.{Explanation}
use Rattle.test_report_run.specs.Totals.{no_suites}
use Rattle.test_report_laws.specs.Whole.{all_notes, notes_of, run_after, run_after_files}

-- what a suite keeps of its tests
pub record Kept : Type 0 where
  pub stats : RunStats
  pub crashed : ℕ
  pub skipped : ℕ
  pub flaky : List FlakyView

abbrev pub kept : SuiteState → Kept
kept s = record { stats = s.stats; crashed = s.crashed; skipped = s.skipped; flaky = s.flaky }

abbrev nothing : Kept
nothing = record { stats = counters_of [] [] nothing_known; crashed = 0; skipped = 0; flaky = [] }

-- one number is at most another one, or equal to it
pub record Within (loose a b : ℕ) : Type 0 where
  pub low : a ≤ b
  pub high : loose ≡ 0 → b ≤ a

-- a position stands in the list, if there is one
abbrev pub IsIn : List SuiteState → Option ℕ → Type 0
IsIn suites None = Unit {0}
IsIn suites (Some at) = at < length suites

pub position-in : (p : SuiteState → Bool) (suites : List SuiteState) (at : Option ℕ) → position p suites ≡ at → IsIn suites at
position-in p suites None h = tt
position-in p suites (Some at) h = (position-Some p suites at outside_start h).0

either-in : (suites : List SuiteState) (a b : Option ℕ) → IsIn suites a → IsIn suites b → IsIn suites (option_or a b)
either-in suites None b h k = k
either-in suites (Some at) b h k = h

last-in : (suites : List SuiteState) → IsIn suites (if length suites == 0 then None else Some (length suites - 1))
last-in suites = cond_both (length suites == 0) None (Some (length suites - 1)) (IsIn suites) (λ none. tt)
    (λ some. omega (arith, eqb-false (length suites) 0 some))

key-in : (r : RunState) (key : Option (List ℕ)) → IsIn r.suites (option_and_then (λ k. open_suite r (Some k)) key)
key-in r None = tt
key-in r (Some key) = position-in _ r.suites (open_suite r (Some key)) refl

pub place-in : (r : RunState) (name : List ℕ) → IsIn r.suites (suite_place r name)
place-in r name = either-in r.suites _ _ (key-in r (before_dollar name))
    (either-in r.suites _ _ (position-in _ r.suites (open_suite r None) refl) (last-in r.suites))

-- a weight of suites, summed over those that are open and the tests outside of a suite
module _ (h : Kept → ℕ) where
  abbrev pub held : SuiteState → ℕ
  held s = h (kept s)

  abbrev pub all_held : RunState → ℕ
  all_held r = held r.outside + sum_by held r.suites

  held-set : (r : RunState) (at : Option ℕ) (s : SuiteState) → IsIn r.suites at
      → all_held (with_suite_at r at s) + held (suite_at r at) ≡ all_held r + held s
  held-set r None s in' = omega arith
  held-set r (Some at) s in' = omega (arith, sum_by-set held r.suites at (heard r s) r.outside in')

  held-push : (suites : List SuiteState) (s : SuiteState) → held s ≡ 0 → sum_by held (suites ++ s ∷ []) ≡ sum_by held suites
  held-push suites s none = omega (arith, sum_by_push held suites s, none)

  held-remove : (r : RunState) (at : ℕ) → at < length r.suites → sum_by held (remove r.suites at) + held (suite_at r (Some at)) ≡ sum_by held r.suites
  held-remove r at in' = sum_by-remove held r.suites at r.outside in'

-- the sums that a run keeps: over suites, of contradictions, and of failed tests and contradictions
abbrev Sums : Type 0
Sums = RunEnd × ℕ

abbrev pub sums_of : RunState → Sums
sums_of r = (r.totals, r.contradictions)

abbrev learn : Sums → List NoteView → Sums
learn s notes = (fold with_note s.0 notes, s.1 + count_by is_contradiction notes)

abbrev pub sums_in : List NoteView → Sums
sums_in notes = (fold with_note no_suites notes, count_by is_contradiction notes)

learn-more : (notes more : List NoteView) → learn (sums_in notes) more ≡ sums_in (notes ++ more)
learn-more notes more =
    let a = fold-append with_note no_suites notes more in
    let b = sum_by-append (λ x. cond (is_contradiction x) 1 0) notes more in
    cc

-- what holds of a run at the end of a file, up to which these notes are known: one weight of the notes is within the other one
pub record HoldsAll (loose : ℕ) (w v : NoteView → ℕ) (notes : List NoteView) (r : RunState) : Type 0 where
  pub whole : Within loose (sum_by w notes) (sum_by v notes)
  pub outside : r.outside ≡ outside_start
  pub suites : r.suites ≡ []
  pub all_sums : sums_of r ≡ sums_in notes

-- suites that end early leave no other suite, and the sums
pub ends-keep : (how : EarlyEnd) (t : Step) (suites : List SuiteState) → ((fold (ended_early how) t suites).run.suites ≡ t.run.suites)
    × (sums_of (fold (ended_early how) t suites).run ≡ sums_of t.run)
ends-keep how t [] = (refl, refl)
ends-keep how t (s ∷ suites) = ends-keep how (ended_early how t s) suites

-- so no suite is open when all end early
pub none-left : (how : EarlyEnd) (r : RunState) → (all_ended_early how r).run.suites ≡ []
none-left how r = (ends-keep how (step (record r { suites = [] }) []) r.suites).0

-- weights of notes, of which the first speaks of tests and the second of suites, a weight of suites, and what holds of suites
pub record Rules (loose : ℕ) (w v : NoteView → ℕ) (h : Kept → ℕ) (Fine : Kept → Type 0) : Type 0 where
  pub w_contradict : (d : ContradictionView) → w (Contradicts d) ≡ 0
  pub v_contradict : (d : ContradictionView) → v (Contradicts d) ≡ 0
  pub empty : h nothing ≡ 0
  pub fine_empty : Fine nothing
  pub of_end : (s : SuiteState) (t : OverView) (order : ℕ) (e : TestEndView) → Fine (kept s)
      → (sum_by w (end_notes s t e) + h (kept s) ≡ sum_by v (end_notes s t e) + h (kept (after_end s t order e)))
      × Fine (kept (after_end s t order e))
  pub of_early : (others : OthersView) (end : Option ProgramEnd) (s : SuiteState) (crashed stopped : List RunningView) → Fine (kept s)
      → Within loose (sum_by w (early_by others end s crashed stopped) + h (kept s)) (sum_by v (early_by others end s crashed stopped))
  pub of_last : (s : SuiteState) (e : Explanation) (tests : List RunningView) → Fine (kept s)
      → Within loose (sum_by w (last_by s e tests) + h (kept s)) (sum_by v (last_by s e tests))

module _ {loose : ℕ} {w v : NoteView → ℕ} {h : Kept → ℕ} {Fine : Kept → Type 0} (rules : Rules loose w v h Fine) where
  open rules use {w_contradict, v_contradict, empty, fine_empty, of_end, of_early, of_last}

  abbrev IsFine : SuiteState → Type 0
  IsFine s = Fine (kept s)

  abbrev AreFine : RunState → Type 0
  AreFine r = IsFine r.outside × All IsFine r.suites

  -- a step of a run that keeps the books
  abbrev Keeps : RunState → Step → Type 0
  Keeps r t = Within loose (sum_by w t.notes + all_held h r) (sum_by v t.notes + all_held h t.run)
      × AreFine t.run
      × (sums_of t.run ≡ sums_of r)

  -- a suite ends early, by those of its tests that crash and those that are stopped
  ends-so : (others : OthersView) (how : EarlyEnd) (s : SuiteState) (tests : List RunningView) → Fine (kept s)
      → Within loose (sum_by w (early_notes others how s tests) + h (kept s)) (sum_by v (early_notes others how s tests))
  ends-so others how s tests = of_early others how.end s (crashed_of s how tests) (stopped_of s how tests)

  fine-at : (r : RunState) (at : Option ℕ) → AreFine r → IsIn r.suites at → IsFine (suite_at r at)
  fine-at r None f in' = f.0
  fine-at r (Some at) f in' = All-get_or IsFine r.suites at r.outside in' f.1

  fine-set : (r : RunState) (at : Option ℕ) (s : SuiteState) → AreFine r → IsFine s → AreFine (with_suite_at r at s)
  fine-set r None s f k = (k, f.1)
  fine-set r (Some at) s f k = (f.0, All-set IsFine r.suites at (heard r s) k f.1)

  fine-remove : (r : RunState) (at : ℕ) → AreFine r → All IsFine (remove r.suites at)
  fine-remove r at f = All-append IsFine (take at r.suites) (drop (suc at) r.suites) (All-take IsFine at r.suites f.1) (All-drop IsFine (suc at) r.suites f.1)

  sums-set : (r : RunState) (at : Option ℕ) (s : SuiteState) → sums_of (with_suite_at r at s) ≡ sums_of r
  sums-set r None s = refl
  sums-set r (Some at) s = refl

  -- a suite changes
  keeps-set : (r : RunState) (at : Option ℕ) (s : SuiteState) (notes : List NoteView) → AreFine r → IsIn r.suites at → IsFine s
      → sum_by w notes + held h (suite_at r at) ≡ sum_by v notes + held h s → Keeps r (step (with_suite_at r at s) notes)
  keeps-set r at s notes f in' k e =
      let a = held-set h r at s in' in
      (record { low = omega arith; high = λ _. omega arith }, fine-set r at s f k, sums-set r at s)

  -- no suite changes
  keeps-same : (r : RunState) (notes : List NoteView) → AreFine r → sum_by w notes ≡ 0 → sum_by v notes ≡ 0 → Keeps r (step r notes)
  keeps-same r notes f a b = (record { low = omega arith; high = λ _. omega arith }, f, refl)

  keeps-if : (r : RunState) (b : Bool) (d : ContradictionView) → AreFine r → Keeps r (step r (if b then Contradicts d ∷ [] else []))
  keeps-if r b d f = keeps-same r (if b then Contradicts d ∷ [] else []) f
      (sum-if-none w b (Contradicts d) (w_contradict d)) (sum-if-none v b (Contradicts d) (v_contradict d))

  -- the first line of a suite
  keeps-first : (r : RunState) (key : Option (List ℕ)) (count : Option ℕ) (at : Option ℕ) → AreFine r → IsIn r.suites at
      → Keeps r (option_map_or (started_again r key count) at (step (opened r key count) []))
  keeps-first r key count None f in' =
      let start = suite_start (Some (r.suites_started + 1)) key r.heading count r.others in
      let same = held-push h r.suites start empty in
      (record { low = omega arith; high = λ _. omega arith }, (f.0, All-push IsFine r.suites start f.1 fine_empty), refl)
  keeps-first r (Some key) count (Some at) f in' =
      let s = suite_at r (Some at) in keeps-set r (Some at) (joined_by s count) [] f in' (fine-at r (Some at) f in') (omega arith)
  keeps-first r None count (Some at) f in' =
      let s = suite_at r (Some at) in
      let start = suite_start (Some (r.suites_started + 1)) None r.heading count r.others in
      let same = held-push h (remove r.suites at) start empty in
      let less = held-remove h r at in' in
      let over = ends-so r.others ending.nothing_known (cancelled_by r.cancel s) (tests_in r s) (fine-at r (Some at) f in') in (
        record { low = omega (arith, over.low); high = λ e. omega (arith, over.high e) },
        (f.0, All-push IsFine (remove r.suites at) start (fine-remove r at f) fine_empty),
        refl,
      )

  -- a last line of a suite
  keeps-over : (r : RunState) (at : ℕ) (s : SuiteState) (over : Bool) → AreFine r → at < length r.suites → kept s ≡ kept (suite_at r (Some at))
      → Keeps r (if over then step (without_tests (record r { suites = remove r.suites at }) s) (last_notes (cancelled_by r.cancel s) (tests_in r s))
      else step (with_suite_at r (Some at) s) [])
  keeps-over r at s true f in' same =
      let less = held-remove h r at in' in
      let tests = tests_in r s in
      let over = of_last (cancelled_by r.cancel s) (explained_of s (length tests)) tests (subst Fine (sym same) (fine-at r (Some at) f in')) in
      let equal : held h s ≡ held h (suite_at r (Some at)) = ap h same in
      (record { low = omega (arith, over.low); high = λ e. omega (arith, over.high e) }, (f.0, fine-remove r at f), refl)
  keeps-over r at s false f in' same =
      let equal : held h s ≡ held h (suite_at r (Some at)) = ap h same in
      keeps-set r (Some at) s [] f in' (subst Fine (sym same) (fine-at r (Some at) f in')) (omega arith)

  keeps-last : (r : RunState) (e : SuiteEndView) (at : Option ℕ) → AreFine r → IsIn r.suites at
      → Keeps r (option_map_or (ended_at r e) at (step r (stray_suite_notes e)))
  keeps-last r e None f in' = keeps-if r (counts_tests e) (StraySuiteEnds e.key e.failed_verdict) f
  keeps-last r e (Some at) f in' =
      let s = with_line (suite_at r (Some at)) e in keeps-over r at s (s.open_lines == 0) f in' refl

  -- the end of a test
  keeps-end : (r : RunState) (at : Option ℕ) (s : SuiteState) (t : OverView) (order : ℕ) (e : TestEndView) → AreFine r → IsIn r.suites at
      → kept s ≡ kept (suite_at r at) → Keeps r (step (with_suite_at r at (after_end s t order e)) (end_notes s t e))
  keeps-end r at s t order e f in' same =
      let equal : held h s ≡ held h (suite_at r at) = ap h same in
      let end = of_end s t order e (subst Fine (sym same) (fine-at r at f in')) in
      keeps-set r at (after_end s t order e) (end_notes s t e) f in' end.1 (omega (arith, end.0))

  keeps-stray : (r : RunState) (e : TestEndView) (how : TestResult) → AreFine r → Keeps r (stray_ends r (record e { result = how }))
  keeps-stray r e Ok f = keeps-if r true (StrayEnds e.name Ok) f
  keeps-stray r e Failed f =
      let at = suite_place r e.name in
      let end = record e { result = Failed } in
      let test = stray_test r end in
      let d = StrayEnds e.name Failed in
      let k = keeps-end r at (named (suite_at r at) e.name) (stray_over r e) 0 end f (place-in r e.name) refl in
      let a = sum_by-append w test (Contradicts d ∷ []) in
      let b = sum_by-append v test (Contradicts d ∷ []) in
      let none = sum-if-none w true (Contradicts d) (w_contradict d) in
      let none' = sum-if-none v true (Contradicts d) (v_contradict d) in
      (record { low = omega (arith, k.0.low); high = λ x. omega (arith, k.0.high x) }, k.1, k.2)
  keeps-stray r e Ignored f =
      let at = suite_place r e.name in
      keeps-end r at (named (suite_at r at) e.name) (stray_over r e) 0 (record e { result = Ignored }) f (place-in r e.name) refl

  keeps-test : (r : RunState) (e : TestEndView) (place : Option (ℕ × ℕ)) → AreFine r
      → Keeps r (option_map_or (λ p. running_ends r e p.0 p.1) place (stray_ends r e))
  keeps-test r e None f = keeps-stray r e e.result f
  keeps-test r e (Some p) f =
      let test = running_at r.running p.0 in
      let place = position (λ s. is_same s.number test.suite) r.suites in
      let r' = record r { running = remove r.running p.0 } in
      keeps-end r' place (suite_at r place) (running_over r e test p.1) test.order e f
      (position-in (λ s. is_same s.number test.suite) r.suites place refl) (same-at place)
    where
      same-at : (at : Option ℕ) → kept (suite_at r at) ≡ kept (suite_at (record r { running = remove r.running p.0 }) at)
      same-at None = refl
      same-at (Some at) = refl

  -- a test is slow
  keeps-slow : (r : RunState) (place : Option (ℕ × ℕ)) → AreFine r → Keeps r (step (option_map_or (λ p. slow_at r p.0) place r) [])
  keeps-slow r None f = keeps-same r [] f refl refl
  keeps-slow r (Some p) f =
      let test = running_at r.running p.0 in
      let at = place_of_number r test.suite in
      let in' = position-in (λ s. is_same s.number test.suite) r.suites at refl in
      slow-keeps r (suite_at r at) at in' (keeps-set r at (suite_at r at) [] f in' (fine-at r at f in') (omega arith))
    where
      slow-keeps : (r : RunState) (s : SuiteState) (at : Option ℕ) → IsIn r.suites at → Keeps r (step (with_suite_at r at s) [])
          → Keeps r (step (record (with_suite_at r at s) { running = with_slow r.running p.0 }) [])
      slow-keeps r s at in' k = k

  -- all that is open ends early
  ends-early : (how : EarlyEnd) (t : Step) (suites : List SuiteState) → All IsFine suites
      → Within loose (sum_by w (fold (ended_early how) t suites).notes + (sum_by v t.notes + sum_by (held h) suites))
      (sum_by v (fold (ended_early how) t suites).notes + sum_by w t.notes)
  ends-early how t [] f = record { low = omega arith; high = λ _. omega arith }
  ends-early how t (s ∷ suites) f =
      let tests = tests_in t.run s in
      let own = cancelled_by t.run.cancel s in
      let now = ends-so t.run.others how own tests (All-head IsFine s suites f) in
      let rest = ends-early how (ended_early how t s) suites (All-tail IsFine s suites f) in
      let more = sum_by-cons (held h) s suites in
      let x = sum_by-append w t.notes (early_notes t.run.others how own tests) in
      let y = sum_by-append v t.notes (early_notes t.run.others how own tests) in
      record { low = omega (arith, now.low, rest.low); high = λ e. omega (arith, now.high e, rest.high e) }

  keeps-ends : (how : EarlyEnd) (r : RunState) → AreFine r → Keeps r (all_ended_early how r)
  keeps-ends how r f =
      let none = step (record r { suites = [] }) [] in
      let ended = fold (ended_early how) none r.suites in
      let keep = ends-keep how none r.suites in
      let first = ends-early how none r.suites f.1 in
      let last = ends-early how (step (record (ended.run) { outside = outside_start }) ended.notes) (r.outside ∷ [])
      (All-cons IsFine r.outside [] f.0 (All-nil IsFine)) in
      let one = sum_by-cons (held h) r.outside [] in
      let gone : sum_by (held h) ended.run.suites ≡ 0 = ap (sum_by (held h)) keep.0 in (
        record { low = omega (arith, first.low, last.low); high = λ e. omega (arith, first.high e, last.high e) },
        (fine_empty, subst (All IsFine) (sym keep.0) (All-nil IsFine)),
        keep.1,
      )

  -- failures of cargo become known
  keeps-reports : (r : RunState) (t : Step) → AreFine r → OnlyReports r t → Keeps r t
  keeps-reports r t f only =
      let same : all_held h t.run ≡ all_held h r = ap (all_held h) only.run_is in
      let a = reports-none only w (λ report. w_contradict _) in
      let b = reports-none only v (λ report. v_contradict _) in
      (record { low = omega arith; high = λ _. omega arith }, subst AreFine (sym only.run_is) f, ap sums_of only.run_is)

  keeps-line : (r : RunState) (e : EventView) → AreFine r → Keeps r (told r e)
  keeps-line r (SuiteStarts key count) f = keeps-first r key count (open_suite r key) f (position-in (has_key key) r.suites (open_suite r key) refl)
  keeps-line r (SuiteEnds e) f = keeps-last r e (open_suite r e.key) f (position-in (has_key e.key) r.suites (open_suite r e.key) refl)
  keeps-line r (TestStarts name) f =
      let at = suite_place r name in
      keeps-set r at (with_start (suite_at r at) name) [] f (place-in r name) (fine-at r at f (place-in r name)) (omega arith)
  keeps-line r (TestEnds e) f = keeps-test r e (place_of_end r.running e.name) f
  keeps-line r (TestIsSlow name) f = keeps-slow r (place_of_end r.running name) f
  keeps-line r OtherLine f = keeps-same r [] f refl refl
  keeps-line r (HeadingLine name path) f = (record { low = omega arith; high = λ _. omega arith }, f, refl)
  keeps-line r (CargoFails k line plain) f =
      keeps-reports (record r { others = after_failure r.others; lacked_events = (cargo_fails r k plain).lacked_events }) (step (cargo_fails r k plain) []) f
      (only-cargo r k plain)
  keeps-line r (Prints line plain) f = (record { low = omega arith; high = λ _. omega arith }, f, refl)
  keeps-line r (DamagedLine text) f = keeps-if r true (IsDamaged (cut text)) f
  keeps-line r (CommandStarts names) f = (record { low = omega arith; high = λ _. omega arith }, f, refl)
  keeps-line r (Cancels why) f = (record { low = omega arith; high = λ _. omega arith }, f, refl)
  keeps-line r (CommandOver end) f = (record { low = omega arith; high = λ _. omega arith }, f, refl)
  keeps-line r (AllEndEarly end) f = keeps-ends (early_end r end) r f
  keeps-line r (ProgramContradicts fault) f = keeps-if r true (unless_cancelled r (OfProgram fault)) f

  -- one step after the other
  keeps-both : (r : RunState) (s t : Step) → Keeps r s → Keeps s.run t → Keeps r (step t.run (s.notes ++ t.notes))
  keeps-both r s t first second =
      let a = sum_by-append w s.notes t.notes in
      let b = sum_by-append v s.notes t.notes in
      let x = first.0 in
      let y = second.0 in
      (record { low = omega (arith, x.low, y.low); high = λ e. omega (arith, x.high e, y.high e) }, second.1, second.2 ∙ first.2)

  keeps-at : (r : RunState) (e : EventView) → AreFine r → Keeps r (told_at r e)
  keeps-at r e f =
      let before = settled_at r e in
      let first = keeps-reports r before f (only-settled_at r e) in
      keeps-both r before (told before.run e) first (keeps-line before.run e first.1)

  -- what holds of a run of which these notes are known
  pub record Holds (notes : List NoteView) (r : RunState) : Type 0 where
    pub books : Within loose (sum_by w notes) (sum_by v notes + all_held h r)
    pub fine : AreFine r
    pub sums : sums_of r ≡ sums_in notes

  -- a step whose notes are counted
  holds-step : (notes : List NoteView) (r : RunState) (t : Step) → Holds notes r → Keeps r t → Holds (notes ++ t.notes) (learned t.run t.notes)
  holds-step notes r t i k =
      let a = sum_by-append w notes t.notes in
      let b = sum_by-append v notes t.notes in
      let before = i.books in
      let now = k.0 in
      record {
        books = record { low = omega (arith, before.low, now.low); high = λ x. omega (arith, before.high x, now.high x) };
        fine = k.1;
        sums = ap (λ s. learn s t.notes) (k.2 ∙ i.sums) ∙ learn-more notes t.notes;
      }

  holds-marked : (notes : List NoteView) (r : RunState) (e : EventView) → Holds notes r → Holds notes (marked r e)
  holds-marked notes r (Prints line plain) i = i
  holds-marked notes r e i = record { books = i.books; fine = i.fine; sums = i.sums }

  -- after the failures of cargo that are known before a line makes its own notes known
  pub holds-settled : (notes : List NoteView) (r : RunState) (e : EventView) → Holds notes r
      → Holds (notes ++ (settled_at r e).notes) (learned (settled_at r e).run (settled_at r e).notes)
  holds-settled notes r e i = holds-step notes r (settled_at r e) i (keeps-reports r (settled_at r e) i.fine (only-settled_at r e))

  holds-line : (notes : List NoteView) (r : RunState) (e : EventView) → Holds notes r → Holds (notes ++ notes_at r e) (after r e)
  holds-line notes r e i = holds-marked (notes ++ notes_at r e) (learned (told_at r e).run (notes_at r e)) e
      (holds-step notes r (told_at r e) i (keeps-at r e i.fine))

  -- the end of a file
  holds-file_end : (notes : List NoteView) (r : RunState) → Holds notes r → HoldsAll loose w v (notes ++ file_notes r) (after_file r)
  holds-file_end notes r i =
      let told = keeps-reports r (reports_told r) i.fine (only-told r) in
      let now = reported_run r in
      let before = i.books in
      let known = told.0 in
      let ended = keeps-ends ending.nothing_known now told.1 in
      let last = ended.0 in
      let closed = none-left ending.nothing_known now in
      let gone : all_held h (suites_over r).run ≡ 0 = omega (arith, empty, ap (sum_by (held h)) closed) in
      let x = sum_by-append w notes (file_notes r) in
      let y = sum_by-append v notes (file_notes r) in
      let a = suites-alone w w_contradict r in
      let b = suites-alone v v_contradict r in
      let c = reports-none (only-told r) w (λ report. w_contradict _) in
      let d = reports-none (only-told r) v (λ report. v_contradict _) in
      record {
        whole = record {
          low = omega (arith, before.low, known.low, last.low);
          high = λ e. omega (arith, before.high e, known.high e, last.high e);
        };
        outside = refl;
        suites = closed;
        all_sums = ap (λ s. learn s (file_notes r)) (ended.2 ∙ (told.2 ∙ i.sums)) ∙ learn-more notes (file_notes r);
      }

  holds-start : (notes : List NoteView) (r : RunState) → HoldsAll loose w v notes r → Holds notes r
  holds-start notes r i =
      let before = i.whole in
      let outside : held h r.outside ≡ 0 = ap (held h) i.outside ∙ empty in
      let suites : sum_by (held h) r.suites ≡ 0 = ap (sum_by (held h)) i.suites in
      record {
        books = record { low = omega (arith, before.low); high = λ e. omega (arith, before.high e) };
        fine = (subst IsFine (sym i.outside) fine_empty, subst (All IsFine) (sym i.suites) (All-nil IsFine));
        sums = i.all_sums;
      }

  holds-none : (settings : RunSettings) → HoldsAll loose w v [] (run_start settings)
  holds-none settings = record { whole = record { low = omega arith; high = λ _. omega arith }; outside = refl; suites = refl; all_sums = refl }

  -- the books are kept over a whole run, and up to any line
  pub holds-whole : (settings : RunSettings) (files : List (List EventView))
      → HoldsAll loose w v (all_notes settings files) (run_after_files (run_start settings) files)
  holds-whole settings = over-run (λ n. Holds) (λ n. HoldsAll loose w v) (λ e. 0) (λ n. holds-start) (λ n. holds-line) (λ n. holds-file_end) settings
      (holds-none settings)

  pub holds-after : (settings : RunSettings) (files : List (List EventView)) (events : List EventView)
      → Holds (all_notes settings files ++ notes_of (run_after_files (run_start settings) files) events)
      (run_after (run_after_files (run_start settings) files) events)
  holds-after settings = up-to-line (λ n. Holds) (λ n. HoldsAll loose w v) (λ e. 0) (λ n. holds-start) (λ n. holds-line) (λ n. holds-file_end) settings
      (holds-none settings)

  -- and so is what each line and each end of a file keep with them
  pub with-books : (P : ℕ → List NoteView → RunState → Type 0) (c : EventView → ℕ)
      → ((n : ℕ) (notes : List NoteView) (r : RunState) (e : EventView) → Holds notes r → P n notes r → P (n + c e) (notes ++ notes_at r e) (after r e))
      → ((n : ℕ) (notes : List NoteView) (r : RunState) → Holds notes r → P n notes r → P n (notes ++ file_notes r) (after_file r))
      → (settings : RunSettings) → P 0 [] (run_start settings) → (files : List (List EventView))
      → P (sum_by (λ file. sum_by c file) files) (all_notes settings files) (run_after_files (run_start settings) files)
  with-books P c line end settings first files =
      let inside = λ (n : ℕ) (notes : List NoteView) (r : RunState). Holds notes r × P n notes r in
      let between = λ (n : ℕ) (notes : List NoteView) (r : RunState). HoldsAll loose w v notes r × P n notes r in
      (over-run inside between c (λ n notes r i. (holds-start notes r i.0, i.1))
      (λ n notes r e i. (holds-line notes r e i.0, line n notes r e i.0 i.1))
      (λ n notes r i. (holds-file_end notes r i.0, end n notes r i.0 i.1)) settings (holds-none settings, first) files).1
