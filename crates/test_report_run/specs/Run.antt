-- A run, line by line.
use Rattle.std.specs.Prelude.{◌+◌, ◌-◌, ◌++◌, ◌==◌, ◌∷◌, ◌||◌, ◌&&◌, [], ℕ, List, Bool, true, false, codes, filter, is_some, length, map, nat_eq, nat_le, nat_lt, not, if◌then◌else◌, slice_index_or, slice_set, Option, Some, None, option_and_then, option_map, string_bytes}
use Rattle.std.specs.Map.{lookup}
use Rattle.std.specs.List.{count_by, fold, list_any, position, remove, starts_with}
use Rattle.std.specs.Option.{option_map_or, option_or, unwrap_or}
use Rattle.std.specs.Str.{bytes_eq}
use Rattle.run_events_results.specs.declared.results.CancelReason.{CancelReason}
use Rattle.test_report_events.specs.Event.{AllEndEarly, Cancels, CommandView, EarlyEndView, EventView, ProgramContradicts, SuiteEndView, SuiteNames, TestEndView, SuiteStarts, SuiteEnds, TestStarts, TestEnds, TestIsSlow, OtherLine, HeadingLine, CargoFails, Prints, DamagedLine, CommandStarts, CommandOver}
use Rattle.test_report_events.specs.declared.event.CargoFailure.{CargoFailure}
use Rattle.test_report_events.specs.declared.event.CargoFailure.TheVariants.{Build, Tests, Run}
use Rattle.test_report_events.specs.declared.event.TestResult.TheVariants.{Ok, Failed, Ignored}
use Rattle.test_report_run_notes.specs.Note.{CargoSays, CargoView, CommandFails, ContradictionView, Contradicts, EndsEarly, Fails, FlakyEnds, HasNoEvent, IsDamaged, IsNotRun, IsSkipped, IsStopped, NoteView, OfProgram, OutcomeView, Passes, SaysOther, StartsOutside, StrayEnds, StraySuiteEnds, SuiteIs, TestIs, WasCancelled, cargo_view, command_view, is_new_contradiction}
use Rattle.test_report_run_notes.specs.declared.note.RunEnd.{RunEnd}
use Rattle.test_report_run.specs.Ended.{after_end, after_stray, end_notes, stray_notes}
use Rattle.test_report_run.specs.Events.{is_after_report, is_event}
use Rattle.test_report_run.specs.Headings.{NamedPaths, headings_of, shown_by, with_heading}
use Rattle.test_report_run.specs.LongestEnd.{joined, with_kept}
use Rattle.test_report_run.specs.OpenSuites.{suites_of}
use Rattle.test_report_run.specs.Over.{EarlyEnd, early_notes, is_among, last_notes, nothing_known}
use Rattle.test_report_run.specs.Others.{OthersView, after_failure, after_heading, after_print, event_place, no_others, others_view}
use Rattle.test_report_run.specs.Prints.{cut, lines_of}
use Rattle.test_report_run.specs.Running.{RunningView, is_of, is_same, place_of_end, running_at, tests_of, with_slow}
use Rattle.test_report_run.specs.Name.{before_dollar}
use Rattle.test_report_run.specs.Suite.{OverView, SuiteState, cancelled_by, has_key, joined_by, outside_start, state_of, suite_start, with_line, with_start}
use Rattle.test_report_run.specs.SuiteNames.{names_of}
use Rattle.test_report_run.specs.Totals.{no_suites, with_suite}
use Rattle.test_report_run.specs.declared.run.TestRun.{TestRun}

-- what is known of a run before its first line: the least time of a slow test, in microseconds, and the names of its files. There are none if the run
-- has only one file
pub record RunSettings : Type 0 where
  pub slow : ℕ
  pub file_names : List (List ℕ)

-- the settings of a run with this time, and these names
abbrev pub run_settings : ℕ → List (List ℕ) → RunSettings
run_settings slow file_names = record { slow = slow; file_names = file_names }

-- what is kept of a run
pub record RunState : Type 0 where
  -- the tests of the file that started outside of a suite, and the open suites in the order of their first lines
  pub outside : SuiteState
  pub suites : List SuiteState
  -- how many suites started
  pub suites_started : ℕ
  -- the names and paths in the headings of the file, the name that the last one shows, whether a line of the file was an event of a harness, and
  -- whether one of its failures of cargo lacks events
  pub headings : NamedPaths
  pub heading : Option (List ℕ)
  pub has_event : Bool
  pub lacked_events : Bool
  -- the lines of the file that are no events
  pub others : OthersView
  -- the plain text of the prints after the last heading, event or failure of cargo: the longest end of them that fits
  pub recent : List (List ℕ)
  -- the last failure of cargo that is a contradiction, until what may say why is read; and those that wait for the end of the command
  pub reported : Option CargoView
  pub held : List CargoView
  -- the lines are the output of a command, and how it ended
  pub of_command : Bool
  pub command : Option CommandView
  -- the names that are known of the suites of the command, and why the run is cancelled up to the end of the file, if it is
  pub names : SuiteNames
  pub cancel : Option CancelReason
  -- the tests that run, how many tests started, and how many ended
  pub running : List RunningView
  pub tests_started : ℕ
  pub ended : ℕ
  -- the sums over the suites that are over, and the number of contradictions
  pub totals : RunEnd
  pub contradictions : ℕ
  -- how many of these say that the run was cancelled
  pub cancels : ℕ
  -- the number of failed tests and contradictions, with the failures of cargo that are not known yet: now, when the file began, and at the last failure of
  -- cargo that counted
  pub causes : ℕ
  pub causes_at_file : ℕ
  pub causes_at_cargo : ℕ
  -- the least time of a slow test, in microseconds
  pub slow : ℕ
  -- the names of this file and of those after it. There are none if the run has only one file
  pub file_names : List (List ℕ)

-- what a run keeps
abbrev pub run_state : TestRun → RunState
run_state r = record {
  outside = state_of r.outside;
  suites = suites_of r.suites;
  suites_started = r.suites.started;
  headings = headings_of r.headings;
  heading = option_map (λ n. string_bytes n.value) r.heading;
  has_event = r.has_event;
  lacked_events = r.lacked_events;
  others = others_view r.others;
  recent = lines_of r.recent;
  reported = option_map cargo_view r.reported;
  held = map cargo_view r.held.items;
  of_command = r.of_command;
  command = option_map command_view r.command;
  names = names_of r.names;
  cancel = r.cancel;
  running = tests_of r.running;
  tests_started = r.running.started;
  ended = r.ended;
  totals = r.totals.end;
  contradictions = r.contradictions;
  cancels = r.cancels;
  causes = r.causes;
  causes_at_file = r.causes_at_file;
  causes_at_cargo = r.causes_at_cargo;
  slow = r.slow;
  file_names = map string_bytes r.file_names.items;
}

-- a run before its first line
abbrev pub run_start : RunSettings → RunState
run_start settings = record {
  outside = outside_start;
  suites = [];
  suites_started = 0;
  headings = [];
  heading = None;
  has_event = false;
  lacked_events = false;
  others = no_others;
  recent = [];
  reported = None;
  held = [];
  of_command = false;
  command = None;
  names = [];
  cancel = None;
  running = [];
  tests_started = 0;
  ended = 0;
  totals = no_suites;
  contradictions = 0;
  cancels = 0;
  causes = 0;
  causes_at_file = 0;
  causes_at_cargo = 0;
  slow = settings.slow;
  file_names = settings.file_names;
}

-- a run after a line, and what the line makes known
pub record Step : Type 0 where
  pub run : RunState
  pub notes : List NoteView

-- the run after a line, with these notes
abbrev pub step : RunState → List NoteView → Step
step run notes = record { run = run; notes = notes }

-- the position of the open suite with this key, or of the one without key
abbrev pub open_suite : RunState → Option (List ℕ) → Option ℕ
open_suite r key = position (has_key key) r.suites

-- the position of the suite that started last, if a suite is open
abbrev pub last_place : List SuiteState → Option ℕ
last_place suites = if length suites == 0 then None else Some (length suites - 1)

-- the position of the suite that a starting test with this name belongs to: the suite whose key is the text before the first `$` of the name; or else
-- the suite without a key; or else the suite that started last. There is none if no suite is open
abbrev pub suite_place : RunState → List ℕ → Option ℕ
suite_place r name =
    option_or (option_and_then (λ key. open_suite r (Some key)) (before_dollar name)) (option_or (open_suite r None) (last_place r.suites))

-- the suite at a position, or the tests outside of a suite
abbrev pub suite_at : RunState → Option ℕ → SuiteState
suite_at r None = r.outside
suite_at r (Some at) = slice_index_or r.suites at r.outside

-- a suite after one of its events
abbrev pub heard : RunState → SuiteState → SuiteState
heard r s = record s { last_event = event_place r.others }

-- the run with this suite, after one of its events, at a position, or with these tests outside of a suite
abbrev pub with_suite_at : RunState → Option ℕ → SuiteState → RunState
with_suite_at r None s = record r { outside = heard r s }
with_suite_at r (Some at) s = record r { suites = slice_set r.suites at (heard r s) }

-- the running tests of a suite
abbrev pub tests_in : RunState → SuiteState → List RunningView
tests_in r s = filter (is_of s.number) r.running

-- the run without the running tests of a suite
abbrev pub without_tests : RunState → SuiteState → RunState
without_tests r s = record r { running = filter (λ t. not (is_of s.number t)) r.running }

-- a suite that was open ends early so
abbrev pub ended_early : EarlyEnd → Step → SuiteState → Step
ended_early how t s = step (without_tests t.run s) (t.notes ++ early_notes t.run.others how (cancelled_by t.run.cancel s) (tests_in t.run s))

-- the open suites end early so, and then the tests outside of a suite
abbrev pub all_ended_early : EarlyEnd → RunState → Step
all_ended_early how r =
    let suites = fold (ended_early how) (step (record r { suites = [] }) []) r.suites in
    ended_early how (step (record (suites.run) { outside = outside_start }) suites.notes) r.outside

-- the first of two lists of names that has the name of a running test, if one has
abbrev pub named_of : RunState → EarlyEndView → Option (List (List ℕ))
named_of r e =
    if list_any (is_among e.overflowed) r.running then Some e.overflowed
    else if list_any (is_among e.panicked) r.running then Some e.panicked
    else None

-- how all that is open ends early: if threads that overflowed their stack have the names of running tests, these crashed, or else those that panicked
abbrev pub early_end : RunState → EarlyEndView → EarlyEnd
early_end r e = record { end = e.end; crashed = named_of r e }

-- a contradiction about the end of something, unless the run is cancelled
abbrev pub unless_cancelled : RunState → ContradictionView → ContradictionView
unless_cancelled r d = option_map_or WasCancelled r.cancel d

-- the run with one more open suite
abbrev pub opened : RunState → Option (List ℕ) → Option ℕ → RunState
opened r key count = record r {
  suites = r.suites ++ suite_start (Some (r.suites_started + 1)) key r.heading count r.others ∷ [];
  suites_started = r.suites_started + 1;
}

-- the first line of a suite whose key the open suite at this position has: the line joins that suite, or ends it early if it has no key
abbrev pub started_again : RunState → Option (List ℕ) → Option ℕ → ℕ → Step
started_again r key count at =
    let s = suite_at r (Some at) in
    if is_some key then step (with_suite_at r (Some at) (joined_by s count)) []
    else let over = ended_early nothing_known (step (record r { suites = remove r.suites at }) []) s in step (opened over.run key count) over.notes

-- the first line of a suite
abbrev pub suite_starts : RunState → Option (List ℕ) → Option ℕ → Step
suite_starts r key count = option_map_or (started_again r key count) (open_suite r key) (step (opened r key count) [])

-- there is a number, and it is above 0
abbrev pub is_above_0 : Option ℕ → Bool
is_above_0 number = option_map_or (nat_lt 0) number false

-- the last line of a suite has a failed verdict, or counts tests that ran
abbrev pub counts_tests : SuiteEndView → Bool
counts_tests e = e.failed_verdict || (is_above_0 e.passed || (is_above_0 e.measured || is_above_0 e.failed))

-- a last line of a suite that is not open is a contradiction if it counts tests
abbrev pub stray_suite_notes : SuiteEndView → List NoteView
stray_suite_notes e = if counts_tests e then Contradicts (StraySuiteEnds e.key e.failed_verdict) ∷ [] else []

-- a last line of the open suite at this position: the suite is over if it has as many last lines as first lines
abbrev pub ended_at : RunState → SuiteEndView → ℕ → Step
ended_at r e at =
    let s = with_line (suite_at r (Some at)) e in
    if s.open_lines == 0 then step (without_tests (record r { suites = remove r.suites at }) s) (last_notes (cancelled_by r.cancel s) (tests_in r s))
    else step (with_suite_at r (Some at) s) []

-- a last line of a suite
abbrev pub suite_ends : RunState → SuiteEndView → Step
suite_ends r e = option_map_or (ended_at r e) (open_suite r e.key) (step r (stray_suite_notes e))

-- the start of a test is counted in its suite
abbrev pub start_counted : RunState → List ℕ → RunState
start_counted r name = let at = suite_place r name in with_suite_at r at (with_start (suite_at r at) name)

-- a test starts
abbrev pub test_starts : RunState → List ℕ → RunState
test_starts r name = record (start_counted r name) {
  running = r.running ++ record { name = name; suite = (suite_at r (suite_place r name)).number; order = r.tests_started; slow = false } ∷ [];
  tests_started = r.tests_started + 1;
}

-- a test with this time is slow
abbrev pub is_long : RunState → Option ℕ → Bool
is_long r time = option_map_or (nat_le r.slow) time false

-- what is known of a running test that ends after this number of attempts
abbrev pub running_over : RunState → TestEndView → RunningView → ℕ → OverView
running_over r e test attempts = record {
  name = test.name;
  attempts = attempts;
  time = e.time;
  ended = Some r.ended;
  slow = test.slow || is_long r e.time;
  cancel = r.cancel;
}

-- the position of the open suite with this number
abbrev pub place_of_number : RunState → Option ℕ → Option ℕ
place_of_number r number = position (λ s. is_same s.number number) r.suites

-- the end of a test that ran, after this number of attempts, counts in its suite
abbrev pub test_over : RunState → TestEndView → RunningView → ℕ → Step
test_over r e test attempts =
    let place = place_of_number r test.suite in
    let over = running_over r e test attempts in
    step (with_suite_at r place (after_end (suite_at r place) over test.order e)) (end_notes (suite_at r place) over e)

-- the running test at this position ends, after this number of attempts
abbrev pub running_ends : RunState → TestEndView → ℕ → ℕ → Step
running_ends r e at attempts = test_over (record r { running = remove r.running at }) e (running_at r.running at) attempts

-- what is known of a test that ends and was not running
abbrev pub stray_over : RunState → TestEndView → OverView
stray_over r e = record { name = e.name; attempts = 1; time = e.time; ended = Some r.ended; slow = is_long r e.time; cancel = r.cancel }

-- the end of a test that was not running is counted in its suite
abbrev pub stray_counted : RunState → TestEndView → RunState
stray_counted r e =
    let at = suite_place r e.name in
    with_suite_at r at (after_stray (suite_at r at) (stray_over r e) e)

-- what becomes known of that test
abbrev pub stray_test : RunState → TestEndView → List NoteView
stray_test r e = stray_notes (suite_at r (suite_place r e.name)) (stray_over r e) e

-- a test ends that was not running: it counts if it failed or was ignored, and its end is a contradiction unless it was ignored
abbrev pub stray_ends : RunState → TestEndView → Step
stray_ends r e = elim e.result as (λ _. Step) [
  | Ok ↦ step r (Contradicts (StrayEnds e.name e.result) ∷ [])
  | Failed ↦ step (stray_counted r e) (stray_test r e ++ Contradicts (StrayEnds e.name e.result) ∷ [])
  | Ignored ↦ step (stray_counted r e) (stray_test r e)
]

-- a test ends
abbrev pub test_ends : RunState → TestEndView → Step
test_ends r e = option_map_or (λ place. running_ends r e place.0 place.1) (place_of_end r.running e.name) (stray_ends r e)

-- the suite at a position has an event
abbrev pub heard_at : RunState → Option ℕ → RunState
heard_at r place = with_suite_at r place (suite_at r place)

-- the running test at this position is slow, and its suite has an event
abbrev pub slow_at : RunState → ℕ → RunState
slow_at r at = record (heard_at r (place_of_number r (running_at r.running at).suite)) { running = with_slow r.running at }

-- a line says that a test is slow
abbrev pub test_is_slow : RunState → List ℕ → RunState
test_is_slow r name = option_map_or (λ place. slow_at r place.0) (place_of_end r.running name) r

-- the name that a heading gives the suites after it: the known name of the path, or else its own
abbrev pub name_by_heading : RunState → List ℕ → Option (List ℕ) → List ℕ
name_by_heading r name path = unwrap_or (option_and_then (λ p. lookup (bytes_eq p) r.names) path) (shown_by r.headings name path)

-- a heading
abbrev pub headed : RunState → List ℕ → Option (List ℕ) → RunState
headed r name path = record r {
  others = after_heading r.others;
  headings = with_heading r.headings name path;
  heading = Some (name_by_heading r name path);
}

-- a failed test or a contradiction before it explains a failure of cargo
abbrev pub is_explained : RunState → CargoFailure → Bool
is_explained r Build = false
is_explained r Tests = nat_lt r.causes_at_cargo r.causes
is_explained r Run = nat_lt r.causes_at_file r.causes

-- a failure of cargo is a contradiction if no suite is open and nothing explains it
abbrev pub cargo_contradicts : RunState → CargoFailure → Bool
cargo_contradicts r f = length r.suites == 0 && not (is_explained r f)

-- a failure of cargo says that tests failed, and no line of the file was an event of a harness. Only the first one counts
abbrev pub lacks_events : RunState → List ℕ → Bool
lacks_events r line = not r.has_event && (not r.lacked_events && starts_with nat_eq line (codes "error: test failed"))

-- the run with a failure of cargo that is a contradiction. It counts from now on
abbrev pub with_report : RunState → List ℕ → RunState
with_report r line = record r {
  reported = Some (record { line = line; prints = joined r.recent; cause = None; lacks_events = lacks_events r line });
  lacked_events = r.lacked_events || lacks_events r line;
  causes = r.causes + 1;
}

-- a failure of cargo
abbrev pub cargo_fails : RunState → CargoFailure → List ℕ → RunState
cargo_fails r f line = record (if cargo_contradicts r f then with_report r line else r) { others = after_failure r.others }

-- a print
abbrev pub printed : RunState → List ℕ → List ℕ → RunState
printed r line plain = record r { others = after_print r.others line plain; recent = with_kept r.recent plain }

-- All that may say why cargo failed was read: the failure becomes known, or waits for the end of the command. If an event is heard now, it does not
-- lack events
abbrev pub report_told : RunState → Bool → CargoView → Step
report_told r heard report =
    let whole = record report { cause = r.others.last_cause; lacks_events = report.lacks_events && not heard } in
    if r.of_command then step (record r { reported = None; held = r.held ++ whole ∷ [] }) []
    else step (record r { reported = None }) (Contradicts (CargoSays whole) ∷ [])

-- the same, if there is such a failure
abbrev pub settled : RunState → Bool → Step
settled r heard = option_map_or (report_told r heard) r.reported (step r [])

-- the run before a line, and what becomes known before what the line itself makes known
abbrev pub settled_at : RunState → EventView → Step
settled_at r e = if is_after_report e then settled r (is_event e) else step r []

-- the run after a line, before its notes are counted, and its own notes
abbrev pub told : RunState → EventView → Step
told r (SuiteStarts key count) = suite_starts r key count
told r (SuiteEnds e) = suite_ends r e
told r (TestStarts name) = step (test_starts r name) []
told r (TestEnds e) = let t = test_ends r e in step (record (t.run) { ended = t.run.ended + 1 }) t.notes
told r (TestIsSlow name) = step (test_is_slow r name) []
told r OtherLine = step r []
told r (HeadingLine name path) = step (headed r name path) []
told r (CargoFails f line plain) = step (cargo_fails r f plain) []
told r (Prints line plain) = step (printed r line plain) []
told r (DamagedLine text) = step r (Contradicts (IsDamaged (cut text)) ∷ [])
told r (CommandStarts names) = step (record r { of_command = true; names = names }) []
told r (CommandOver end) = step (record r { command = Some end }) []
told r (Cancels reason) = step (record r { cancel = Some reason }) []
told r (AllEndEarly end) = all_ended_early (early_end r end) r
told r (ProgramContradicts fault) = step r (Contradicts (unless_cancelled r (OfProgram fault)) ∷ [])

-- the test failed
abbrev pub has_failed : OutcomeView → Bool
has_failed (Passes output) = false
has_failed (IsSkipped reason) = false
has_failed IsStopped = false
has_failed (Fails failure) = true

-- the note is of a failed test
abbrev pub is_failed_test : NoteView → Bool
is_failed_test (TestIs t) = has_failed t.outcome
is_failed_test (FlakyEnds t) = false
is_failed_test (Contradicts d) = false
is_failed_test (IsNotRun suite n of) = false
is_failed_test (SuiteIs s) = false

-- the note is a contradiction
abbrev pub is_contradiction : NoteView → Bool
is_contradiction (TestIs t) = false
is_contradiction (FlakyEnds t) = false
is_contradiction (Contradicts d) = true
is_contradiction (IsNotRun suite n of) = false
is_contradiction (SuiteIs s) = false

-- the contradiction says that the run was cancelled
abbrev pub is_cancellation : ContradictionView → Bool
is_cancellation (WasCancelled reason) = true
is_cancellation (EndsEarly suite end) = false
is_cancellation (SaysOther suite said passed failed) = false
is_cancellation (StrayEnds name how) = false
is_cancellation (StraySuiteEnds key failed) = false
is_cancellation (StartsOutside n) = false
is_cancellation (CargoSays report) = false
is_cancellation (IsDamaged text) = false
is_cancellation (HasNoEvent file) = false
is_cancellation (CommandFails end) = false
is_cancellation (OfProgram fault) = false

-- the note says that the run was cancelled
abbrev pub is_cancel_note : NoteView → Bool
is_cancel_note (Contradicts d) = is_cancellation d
is_cancel_note (TestIs t) = false
is_cancel_note (FlakyEnds t) = false
is_cancel_note (IsNotRun suite n of) = false
is_cancel_note (SuiteIs s) = false

-- the note is of a failed test, or is a contradiction
abbrev pub is_cause : NoteView → Bool
is_cause note = is_failed_test note || is_contradiction note

-- the note is of a failed test, or of a contradiction that is counted when it becomes known
abbrev pub is_new_cause : NoteView → Bool
is_new_cause (TestIs t) = has_failed t.outcome
is_new_cause (FlakyEnds t) = false
is_new_cause (Contradicts d) = is_new_contradiction d
is_new_cause (IsNotRun suite n of) = false
is_new_cause (SuiteIs s) = false

-- the sums with one more note: that of a suite which is over adds to them
abbrev pub with_note : RunEnd → NoteView → RunEnd
with_note e (TestIs t) = e
with_note e (FlakyEnds t) = e
with_note e (Contradicts d) = e
with_note e (IsNotRun suite n of) = e
with_note e (SuiteIs s) = with_suite e s

-- the run with these notes counted
abbrev pub learned : RunState → List NoteView → RunState
learned r notes = record r {
  totals = fold with_note r.totals notes;
  contradictions = r.contradictions + count_by is_contradiction notes;
  cancels = r.cancels + count_by is_cancel_note notes;
  causes = r.causes + count_by is_new_cause notes;
}

-- the run remembers that a line was an event of a harness, and how many causes there were at a failure of cargo that counted
abbrev pub marked : RunState → EventView → RunState
marked r (CargoFails f line plain) = record r { recent = []; causes_at_cargo = if length r.suites == 0 then r.causes else r.causes_at_cargo }
marked r (SuiteStarts key count) = record r { recent = []; has_event = true }
marked r (SuiteEnds e) = record r { recent = []; has_event = true }
marked r (TestStarts name) = record r { recent = []; has_event = true }
marked r (TestEnds e) = record r { recent = []; has_event = true }
marked r (TestIsSlow name) = record r { recent = []; has_event = true }
marked r OtherLine = record r { recent = []; has_event = true }
marked r (HeadingLine name path) = record r { recent = [] }
marked r (Prints line plain) = r
marked r (DamagedLine text) = r
marked r (CommandStarts names) = r
marked r (CommandOver end) = r
marked r (Cancels reason) = r
marked r (AllEndEarly end) = r
marked r (ProgramContradicts fault) = r

-- the run after a line, before its notes are counted, and what the line makes known
abbrev pub told_at : RunState → EventView → Step
told_at r e = let before = settled_at r e in let own = told before.run e in step own.run (before.notes ++ own.notes)

-- what a line makes known
abbrev pub notes_at : RunState → EventView → List NoteView
notes_at r e = (told_at r e).notes

-- the run after a line
abbrev pub after : RunState → EventView → RunState
after r e = marked (learned (told_at r e).run (told_at r e).notes) e

-- what events make known, one after the other
abbrev pub notes_of : RunState → List EventView → List NoteView
notes_of r [] = []
notes_of r (e ∷ events) = notes_at r e ++ notes_of (after r e) events

-- the run after events
abbrev pub run_after : RunState → List EventView → RunState
run_after r events = fold after r events
