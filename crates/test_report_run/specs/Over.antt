-- A suite that is over.
use Rattle.std.specs.Prelude.{◌+◌, ◌-◌, ◌++◌, ◌==◌, ◌∷◌, ◌&&◌, [], ℕ, List, Bool, true, false, drop, filter, is_none, length, map, max, nat_lt, not, take, if◌then◌else◌, is_some, None, Option, String, option_map, string_bytes, unwrap_or}
use Rattle.std.specs.BTreeSet.{BTreeSet}
use Rattle.std.specs.List.{fold, list_any}
use Rattle.std.specs.Option.{option_map_or, option_or}
use Rattle.std.specs.Str.{bytes_eq}
use Rattle.std.specs.declared.alloc.Global.{Global}
use Rattle.run_events_stats.specs.Counters.{with_test}
use Rattle.run_events_stats.specs.declared.stats.RunStats.{RunStats}
use Rattle.test_report_events.specs.Event.{EarlyEndView}
use Rattle.test_report_events.specs.declared.program.ProgramEnd.{ProgramEnd}
use Rattle.test_report_run_notes.specs.Finish.{view_of_finish}
use Rattle.test_report_run_notes.specs.Note.{ContradictionView, Contradicts, CrashView, EndsEarly, FailureView, Fails, HasCrashed, HasNoEnd, IsFlaky, IsNotRun, IsSkipped, IsStopped, KindView, NoteView, OutcomeView, Passes, SaysOther, StartsOutside, SuiteIs, WasCancelled, failed_of}
use Rattle.test_report_run_notes.specs.declared.finish.Finish.TheVariants as finish
use Rattle.test_report_run.specs.LastLine.{explanation_of, is_contradicted}
use Rattle.test_report_run.specs.Others.{OthersView, cause_after, last_prints_from, prints_from}
use Rattle.test_report_run.specs.Running.{RunningView}
use Rattle.test_report_run.specs.Said.{numbers_of}
use Rattle.test_report_run.specs.Suite.{FlakyView, OverView, SuiteState, suite_name, tally_of, test_note}
use Rattle.test_report_run.specs.declared.early.Ending.{Ending}
use Rattle.test_report_run.specs.declared.early.EarlyEnd as early
use Rattle.test_report_run.specs.declared.last_line.Explanation.{Explanation}
use Rattle.test_report_run.specs.declared.over.Rest.{Rest}

-- the names in a set, in their order
abbrev pub names_of : BTreeSet (String Global) → List (List ℕ)
names_of names = map string_bytes names.keys

-- what is known when all that is open ends early
abbrev pub early_view : early.EarlyEnd → EarlyEndView
early_view e = record { end = e.end; overflowed = names_of e.overflowed; panicked = names_of e.panicked }

-- how open suites end early: how their program ended, if that is known, and the names of the tests that crashed, if it is known that not all of them did
pub record EarlyEnd : Type 0 where
  pub end : Option ProgramEnd
  pub crashed : Option (List (List ℕ))

-- what is kept of that
abbrev pub early_end_of : Ending → EarlyEnd
early_end_of e = record { end = e.end; crashed = option_map names_of e.crashed }

-- nothing is known about it
abbrev pub nothing_known : EarlyEnd
nothing_known = record { end = None; crashed = None }

-- the test has one of these names
abbrev pub is_among : List (List ℕ) → RunningView → Bool
is_among names t = list_any (bytes_eq t.name) names

-- a running test crashed: it has one of the names, or there are none
abbrev pub is_crashed : EarlyEnd → RunningView → Bool
is_crashed how t = option_map_or (λ names. is_among names t) how.crashed true

-- a running test of the suite crashes, unless the run is cancelled
abbrev pub crashes : SuiteState → EarlyEnd → RunningView → Bool
crashes s how t = is_none s.cancel && is_crashed how t

-- the running tests of the suite that crash
abbrev pub crashed_of : SuiteState → EarlyEnd → List RunningView → List RunningView
crashed_of s how tests = filter (crashes s how) tests

-- those that are stopped
abbrev pub stopped_of : SuiteState → EarlyEnd → List RunningView → List RunningView
stopped_of s how tests = filter (λ t. not (crashes s how t)) tests

-- a test of the suite without end is over
abbrev pub over_of : SuiteState → RunningView → OverView
over_of s t = record { name = t.name; attempts = 1; time = None; ended = None; slow = t.slow; cancel = s.cancel }

-- a failure that no line reports
abbrev pub bare_failure : KindView → FailureView
bare_failure kind = record { kind = kind; stdout = None; message = None; reason = None }

-- this test without end fails so
abbrev pub failed_note : SuiteState → KindView → RunningView → NoteView
failed_note s kind t = test_note s (over_of s t) (Fails (bare_failure kind))

-- these tests without end fail so
abbrev pub failed_notes : SuiteState → KindView → List RunningView → List NoteView
failed_notes s kind tests = map (failed_note s kind) tests

-- how the first of this number of tests of the suite crashed, after these lines that are no events, if the program ended so
abbrev pub crash_of : OthersView → Option ProgramEnd → SuiteState → ℕ → CrashView
crash_of others end s running = record {
  running = running;
  has_key = is_some s.key;
  end = end;
  cause = cause_after others s.last_event;
  prints = prints_from others s.start;
  last = last_prints_from others s.start;
  above = false;
}

-- how the tests after it crashed
abbrev pub crash_again : CrashView → CrashView
crash_again c = record c { above = true }

-- these tests crash: the first one so, and the others after it
abbrev pub crashed_notes : SuiteState → CrashView → List RunningView → List NoteView
crashed_notes s c [] = []
crashed_notes s c (t ∷ tests) = failed_note s (HasCrashed c) t ∷ failed_notes s (HasCrashed (crash_again c)) tests

-- this test without end was stopped
abbrev pub stopped_note : SuiteState → RunningView → NoteView
stopped_note s t = test_note s (over_of s t) IsStopped

-- the statistics with one more test without end that failed
abbrev pub one_failed : RunStats → RunningView → RunStats
one_failed stats t = with_test stats (view_of_finish finish.Failed 1 t.slow)

-- the statistics with all these tests as failed
abbrev pub with_failed : RunStats → List RunningView → RunStats
with_failed stats tests = fold one_failed stats tests

-- the suite with one more test without end that failed
abbrev pub with_failure : SuiteState → RunningView → SuiteState
with_failure s t = record s { stats = one_failed s.stats t }

-- how a flaky test counts: it passed, or it failed
abbrev pub flaky_outcome : Bool → FlakyView → OutcomeView
flaky_outcome false f = Passes f.stdout
flaky_outcome true f = Fails record { kind = IsFlaky; stdout = f.stdout; message = f.message; reason = None }

-- what becomes known of a flaky test when its suite ends
abbrev pub flaky_note : SuiteState → Bool → FlakyView → NoteView
flaky_note s failed f = test_note s (record f.test { cancel = s.cancel }) (flaky_outcome failed f)

-- what becomes known of all flaky tests of a suite
abbrev pub flaky_notes : SuiteState → Bool → List NoteView
flaky_notes s failed = map (flaky_note s failed) s.flaky

-- the statistics with one more flaky test
abbrev pub one_flaky : Bool → RunStats → FlakyView → RunStats
one_flaky failed stats f = with_test stats (view_of_finish (if failed then finish.FlakyFailed else finish.Passed) f.test.attempts f.test.slow)

-- the statistics with all these flaky tests
abbrev pub with_all_flaky : Bool → RunStats → List FlakyView → RunStats
with_all_flaky failed stats flaky = fold (one_flaky failed) stats flaky

-- how many tests were to run
abbrev pub initial_of : SuiteState → Rest → ℕ
initial_of s rest =
    option_map_or (λ count. max (count - rest.skipped) (s.stats.finished_count + rest.left)) s.test_count (s.stats.finished_count + rest.left)

-- the numbers of a suite that is over: how many tests were skipped, how many are left, and the time
abbrev pub number_notes : SuiteState → Rest → List NoteView
number_notes s rest =
    let initial = initial_of s rest in
    let not_run = initial - s.stats.finished_count in
    option_map_or (λ name. if nat_lt 0 not_run then IsNotRun name not_run initial ∷ [] else []) (suite_name s) []
    ++ SuiteIs record { name = suite_name s; stats = s.stats; skipped = rest.skipped; not_run = not_run; crashed = s.crashed; time = rest.time } ∷ []

-- the contradiction of a suite with this name that ends early: in a cancelled run, that the run was cancelled
abbrev pub early_contradiction : SuiteState → Option ProgramEnd → List ℕ → ContradictionView
early_contradiction s end name = option_map_or WasCancelled s.cancel (EndsEarly name end)

-- the early end of a suite is a contradiction if none of its tests crashed, and so are tests that started outside of a suite
abbrev pub early_contradictions : SuiteState → Option ProgramEnd → ℕ → List NoteView
early_contradictions s end crashed =
    option_map_or (λ name. if crashed == 0 then Contradicts (early_contradiction s end name) ∷ [] else []) (suite_name s)
    (if nat_lt 0 s.started then Contradicts (StartsOutside s.started) ∷ [] else [])

-- a suite that ends early counts those of its running tests that crashed, and its flaky tests as passed
abbrev pub early_state : SuiteState → List RunningView → SuiteState
early_state s crashed = record s {
  stats = with_all_flaky false (with_failed s.stats crashed) s.flaky;
  crashed = s.crashed + length crashed;
  flaky = [];
}

-- what becomes known when a suite ends early and these of its tests crash and these are stopped, after these lines that are no events, if its program
-- ended so
abbrev pub early_by : OthersView → Option ProgramEnd → SuiteState → List RunningView → List RunningView → List NoteView
early_by others end s crashed stopped =
    crashed_notes s (crash_of others end s (length crashed)) crashed
    ++ (map (stopped_note s) stopped
    ++ (flaky_notes s false
    ++ (early_contradictions s end (length crashed)
    ++ number_notes (early_state s crashed) record { skipped = s.skipped; left = length stopped; time = s.time })))

-- what becomes known when a suite ends early so while these tests run
abbrev pub early_notes : OthersView → EarlyEnd → SuiteState → List RunningView → List NoteView
early_notes others how s tests = early_by others how.end s (crashed_of s how tests) (stopped_of s how tests)

-- what the last line of a suite explains while this number of its tests run
abbrev pub explained_of : SuiteState → ℕ → Explanation
explained_of s left = explanation_of (tally_of s left) (numbers_of s.said) (unwrap_or s.said.ignored 0)

-- the running tests that failed, by what the last line explains
abbrev pub lost : Explanation → List RunningView → List RunningView
lost e tests = if e.others_failed then drop e.skipped tests else []

-- a suite that ends with its last line counts its running and its flaky tests as the line explains them
abbrev pub last_state : SuiteState → Explanation → List RunningView → SuiteState
last_state s e tests = record s {
  stats = with_all_flaky e.flaky_failed (with_failed s.stats (lost e tests)) s.flaky;
  flaky = [];
}

-- the last line of a suite is a contradiction if it says other numbers than those of its tests
abbrev pub last_contradiction : SuiteState → List NoteView
last_contradiction s =
    let said = numbers_of s.said in
    option_map_or (λ name. if is_contradicted said s.stats.passed (failed_of s.stats)
    then Contradicts (SaysOther name said s.stats.passed (failed_of s.stats)) ∷ [] else []) (suite_name s) []

-- how many tests of such a suite were skipped, how many were not run, and the time that it took
abbrev pub rest_of : SuiteState → Explanation → List RunningView → Rest
rest_of s e tests = record {
  skipped = s.skipped + e.skipped + e.nameless;
  left = if e.others_failed then 0 else length (drop e.skipped tests);
  time = option_or s.said.time s.time;
}

-- this test without end was skipped
abbrev pub skipped_note : SuiteState → RunningView → NoteView
skipped_note s t = test_note s (over_of s t) (IsSkipped None)

-- what becomes known when a suite ends with its last line while these tests run
abbrev pub last_notes : SuiteState → List RunningView → List NoteView
last_notes s tests =
    let e = explained_of s (length tests) in
    map (skipped_note s) (take e.skipped tests)
    ++ (failed_notes s HasNoEnd (lost e tests)
    ++ (flaky_notes s e.flaky_failed
    ++ (last_contradiction (last_state s e tests)
    ++ number_notes (last_state s e tests) (rest_of s e tests))))
