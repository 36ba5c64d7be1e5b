-- The tests of a suite that is over, one after another: what is counted, and what becomes known.
use Rattle.std.proofs.Common.{◌≡◌, ◌++◌, ◌+◌, ◌∷◌, [], ℕ, List, Bool, ap, append-nil, append_assoc, arith, filter, length, length-append, map, refl, sym, true, false}
use Rattle.std.specs.List.{fold}
use Rattle.std.proofs.lemmas.List.{map-append}
use Rattle.std.proofs.lemmas.List.Elements.{filter-append}
use Rattle.std.proofs.lemmas.List.Sums.{fold_push}
use Rattle.run_events_stats.specs.declared.stats.RunStats.{RunStats}
use Rattle.test_report_run_notes.specs.Note.{KindView, NoteView, OutcomeView}
use Rattle.test_report_run.specs.Over.{failed_note, failed_notes, flaky_note, one_failed, one_flaky, over_of, with_all_flaky, with_failed, with_failure}
use Rattle.test_report_run.specs.Running.{running_test_view, running_view}
use Rattle.test_report_run.specs.Suite.{OverView, SuiteState, flaky_view, test_note}
use Rattle.test_report_run.specs.declared.running.RunningTest.{RunningTest}
use Rattle.test_report_run.specs.declared.suite.FlakyTest.{FlakyTest}

-- one more note
notes-more : {A B : Type 0} (v : A → B) (g : B → NoteView) (old before after : List NoteView) (done : List A) (x : A)
    → before ≡ old ++ map g (map v done) → after ≡ before ++ g (v x) ∷ [] → after ≡ old ++ map g (map v (done ++ x ∷ []))
notes-more v g old before after done x told one =
    rw (one, told, map-append v done (x ∷ []), map-append g (map v done) (v x ∷ [])) (append_assoc old (map g (map v done)) (g (v x) ∷ []))

-- one more value, which is kept
pub kept-more : {A B : Type 0} (v : A → B) (p : B → Bool) (done kept after : List A) (x : A)
    → map v kept ≡ filter p (map v done) → p (v x) ≡ true → after ≡ kept ++ x ∷ [] → map v after ≡ filter p (map v (done ++ x ∷ []))
kept-more v p done kept after x first is one =
    rw (one, map-append v kept (x ∷ []), map-append v done (x ∷ []), filter-append p (map v done) (v x ∷ []), first, is) refl

-- one more value, which is not kept
pub left-more : {A B : Type 0} (v : A → B) (p : B → Bool) (done kept : List A) (x : A)
    → map v kept ≡ filter p (map v done) → p (v x) ≡ false → map v kept ≡ filter p (map v (done ++ x ∷ []))
left-more v p done kept x first is =
    rw (map-append v done (x ∷ []), filter-append p (map v done) (v x ∷ []), first, is) (sym (append-nil (filter p (map v done))))

-- one more test in the statistics
stats-more : {A B : Type 0} (v : A → B) (h : RunStats → B → RunStats) (stats : RunStats) (done : List A) (x : A)
    → fold h stats (map v (done ++ x ∷ [])) ≡ h (fold h stats (map v done)) (v x)
stats-more v h stats done x = rw (map-append v done (x ∷ [])) (fold_push h stats (map v done) (v x))

pub flaky-counted : (failed : Bool) (s before after : SuiteState) (done : List FlakyTest) (f : FlakyTest)
    → before ≡ record s { stats = with_all_flaky failed s.stats (map flaky_view done); flaky = [] }
    → after ≡ record before { stats = one_flaky failed before.stats (flaky_view f) }
    → after ≡ record s { stats = with_all_flaky failed s.stats (map flaky_view (done ++ f ∷ [])); flaky = [] }
flaky-counted failed s before after done f first one = rw (one, first, stats-more flaky_view (one_flaky failed) s.stats done f) refl

pub flaky-told : (failed : Bool) (s before : SuiteState) (old n1 n2 : List NoteView) (done : List FlakyTest) (f : FlakyTest)
    → before ≡ record s { stats = with_all_flaky failed s.stats (map flaky_view done); flaky = [] }
    → n1 ≡ old ++ map (flaky_note s failed) (map flaky_view done) → n2 ≡ n1 ++ flaky_note before failed (flaky_view f) ∷ []
    → n2 ≡ old ++ map (flaky_note s failed) (map flaky_view (done ++ f ∷ []))
flaky-told failed s before old n1 n2 done f first told one =
    notes-more flaky_view (flaky_note s failed) old n1 n2 done f told (rw first at one)

pub lost-counted : (s before after : SuiteState) (done : List RunningTest) (t : RunningTest)
    → before ≡ record s { stats = with_failed s.stats (running_view done) } → after ≡ with_failure before (running_test_view t)
    → after ≡ record s { stats = with_failed s.stats (running_view (done ++ t ∷ [])) }
lost-counted s before after done t first one = rw (one, first, stats-more running_test_view one_failed s.stats done t) refl

pub crash-counted : (s before after : SuiteState) (more : ℕ) (done : List RunningTest) (t : RunningTest)
    → before ≡ record s { stats = with_failed s.stats (running_view done); crashed = s.crashed + length done } → more ≡ before.crashed + 1
    → after ≡ with_failure (record before { crashed = more }) (running_test_view t)
    → after ≡ record s { stats = with_failed s.stats (running_view (done ++ t ∷ [])); crashed = s.crashed + length (done ++ t ∷ []) }
crash-counted s before after more done t first is one =
    let sum : s.crashed + length done + 1 ≡ s.crashed + length (done ++ t ∷ []) = omega (arith, length-append done (t ∷ [])) in
    rw (one, is, first, stats-more running_test_view one_failed s.stats done t)
    (ap (λ n. record s { stats = one_failed (with_failed s.stats (running_view done)) (running_test_view t); crashed = n }) sum)

pub failed-told : (s before : SuiteState) (stats : RunStats) (crashed : ℕ) (kind own : KindView) (old n1 n2 : List NoteView) (done : List RunningTest)
    (t : RunningTest)
    → before ≡ record s { stats = stats; crashed = crashed } → own ≡ kind → n1 ≡ old ++ failed_notes s kind (running_view done)
    → n2 ≡ n1 ++ failed_note before own (running_test_view t) ∷ [] → n2 ≡ old ++ failed_notes s kind (running_view (done ++ t ∷ []))
failed-told s before stats crashed kind own old n1 n2 done t first is told one =
    notes-more running_test_view (failed_note s kind) old n1 n2 done t told (rw (first, is) at one)

pub left-told : (s : SuiteState) (over : OverView) (how outcome : OutcomeView) (old n1 n2 : List NoteView) (done : List RunningTest) (t : RunningTest)
    → over ≡ over_of s (running_test_view t) → outcome ≡ how → n1 ≡ old ++ map (λ t. test_note s (over_of s t) how) (running_view done)
    → n2 ≡ n1 ++ test_note s over outcome ∷ [] → n2 ≡ old ++ map (λ t. test_note s (over_of s t) how) (running_view (done ++ t ∷ []))
left-told s over how outcome old n1 n2 done t known is told one =
    notes-more running_test_view (λ t. test_note s (over_of s t) how) old n1 n2 done t told (rw (known, is) at one)
