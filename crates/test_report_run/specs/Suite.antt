-- A suite of a run.
use Rattle.std.specs.Prelude.{◌+◌, ◌-◌, [], ℕ, List, Bool, false, is_none, length, map, Option, Some, None, option_map, string_bytes}
use Rattle.std.specs.BTreeMap.{values}
use Rattle.std.specs.Option.{option_map_or, option_or}
use Rattle.std.specs.Str.{bytes_eq}
use Rattle.run_events_results.specs.declared.results.CancelReason.{CancelReason}
use Rattle.run_events_stats.specs.Counters.{counters_of, nothing_known, with_test}
use Rattle.run_events_stats.specs.declared.stats.RunStats.{RunStats}
use Rattle.test_report_events.specs.Event.{SuiteEndView}
use Rattle.test_report_run_notes.specs.Finish.{view_of_finish}
use Rattle.test_report_run_notes.specs.Note.{NoteView, OutcomeView, TestIs, TestNoteView, failed_of, text_view}
use Rattle.test_report_run_notes.specs.declared.finish.Finish.{Finish}
use Rattle.test_report_run.specs.Name.{name_by}
use Rattle.test_report_run.specs.Others.{OthersView, event_place, no_others, print_place}
use Rattle.test_report_run.specs.Said.{no_lines, sum_of, with_said}
use Rattle.test_report_run.specs.declared.flaky.FlakyTests.{FlakyTests}
use Rattle.test_report_run.specs.declared.last_line.Tally.{Tally}
use Rattle.test_report_run.specs.declared.others.EventPlace.{EventPlace}
use Rattle.test_report_run.specs.declared.others.PrintPlace.{PrintPlace}
use Rattle.test_report_run.specs.declared.said.Said.{Said}
use Rattle.test_report_run.specs.declared.suite.FlakyTest.{FlakyTest}
use Rattle.test_report_run.specs.declared.suite.OverTest.{OverTest}
use Rattle.test_report_run.specs.declared.suite.Suite.{Suite}

-- what is known of a test that is over, but how it counts
pub record OverView : Type 0 where
  pub name : List ℕ
  pub attempts : ℕ
  pub time : Option ℕ
  pub ended : Option ℕ
  pub slow : Bool
  pub cancel : Option CancelReason

-- a flaky test that passed at last
pub record FlakyView : Type 0 where
  pub test : OverView
  pub order : ℕ
  pub stdout : Option (List ℕ)
  pub message : Option (List ℕ)

-- an open suite, or the tests of a file that start outside of a suite
pub record SuiteState : Type 0 where
  pub number : Option ℕ
  pub key : Option (List ℕ)
  pub heading : Option (List ℕ)
  pub first_test : Option (List ℕ)
  pub test_count : Option ℕ
  pub started : ℕ
  pub open_lines : ℕ
  pub said : Said
  pub stats : RunStats
  pub crashed : ℕ
  pub skipped : ℕ
  pub flaky : List FlakyView
  pub time : Option ℕ
  -- the place of the first print after its first line, and that of its last event
  pub start : PrintPlace
  pub last_event : EventPlace
  -- why the run was cancelled before the suite was over, if it was. The run sets it when the suite is over
  pub cancel : Option CancelReason

-- what is known of a test that is over
abbrev pub over_view : OverTest → OverView
over_view t = record { name = string_bytes t.name; attempts = t.attempts; time = t.time; ended = t.ended; slow = t.slow; cancel = t.cancel }

-- what is known of a flaky test
abbrev pub flaky_view : FlakyTest → FlakyView
flaky_view f = record { test = over_view f.test; order = f.order; stdout = text_view f.stdout; message = text_view f.message }

-- what is known of the flaky tests of a suite, in the order in which they started
abbrev pub flaky_of : FlakyTests → List FlakyView
flaky_of flaky = map flaky_view (values flaky.tests)

-- what a suite keeps
abbrev pub state_of : Suite → SuiteState
state_of s = record {
  number = s.name.number;
  key = text_view s.name.key;
  heading = option_map (λ n. string_bytes n.value) s.name.heading;
  first_test = text_view s.name.first_test;
  test_count = s.test_count;
  started = s.started;
  open_lines = s.open_lines;
  said = s.said;
  stats = s.stats;
  crashed = s.crashed;
  skipped = s.skipped;
  flaky = flaky_of s.flaky;
  time = s.time;
  start = s.start;
  last_event = s.last_event;
  cancel = s.cancel;
}

-- a suite of which one first line was read, after these other lines
abbrev pub suite_start : Option ℕ → Option (List ℕ) → Option (List ℕ) → Option ℕ → OthersView → SuiteState
suite_start number key heading count others = record {
  number = number;
  key = key;
  heading = heading;
  first_test = None;
  test_count = count;
  started = 0;
  open_lines = 1;
  said = no_lines;
  stats = counters_of [] [] nothing_known;
  crashed = 0;
  skipped = 0;
  flaky = [];
  time = None;
  start = print_place others;
  last_event = event_place others;
  cancel = None;
}

-- the tests of a file that start outside of a suite, before the first of them
abbrev pub outside_start : SuiteState
outside_start = suite_start None None None None no_others

-- the suite with this cancel reason of the run, or none
abbrev pub cancelled_by : Option CancelReason → SuiteState → SuiteState
cancelled_by why s = record s { cancel = why }

-- the suite with one more first line
abbrev pub joined_by : SuiteState → Option ℕ → SuiteState
joined_by s count = record s { open_lines = s.open_lines + 1; test_count = sum_of s.test_count count }

-- the suite with one more last line
abbrev pub with_line : SuiteState → SuiteEndView → SuiteState
with_line s e = record s { said = with_said s.said e; open_lines = s.open_lines - 1 }

-- a test of this name is the first one of the suite, if there was none
abbrev pub named : SuiteState → List ℕ → SuiteState
named s name = record s { first_test = option_or s.first_test (Some name) }

-- the suite after the start of a test
abbrev pub with_start : SuiteState → List ℕ → SuiteState
with_start s name = record (named s name) { started = s.started + 1 }

-- the suite has this key, or no key
abbrev pub has_key : Option (List ℕ) → SuiteState → Bool
has_key None s = is_none s.key
has_key (Some key) s = option_map_or (λ own. bytes_eq own key) s.key false

-- the name of a suite that is shown. The tests outside of a suite have none
abbrev pub suite_name : SuiteState → Option (List ℕ)
suite_name s = name_by s.number s.key s.heading s.first_test

-- what is known of a test of the suite that is over
abbrev pub test_of : SuiteState → OverView → OutcomeView → TestNoteView
test_of s t outcome = record {
  suite = suite_name s;
  name = t.name;
  attempts = t.attempts;
  time = t.time;
  ended = t.ended;
  slow = t.slow;
  cancel = t.cancel;
  outcome = outcome;
}

-- what becomes known of a test of the suite
abbrev pub test_note : SuiteState → OverView → OutcomeView → NoteView
test_note s t outcome = TestIs (test_of s t outcome)

-- one more test finished
abbrev pub with_finish : SuiteState → Finish → ℕ → Bool → SuiteState
with_finish s how attempts slow = record s { stats = with_test s.stats (view_of_finish how attempts slow) }

-- the tests of a suite of which `left` are running
abbrev pub tally_of : SuiteState → ℕ → Tally
tally_of s left = record {
  test_count = s.test_count;
  passed = s.stats.passed + length s.flaky;
  flaky = length s.flaky;
  failed = failed_of s.stats;
  skipped = s.skipped;
  left = left;
}
