-- How far a run is.
use Rattle.std.specs.Prelude.{◌+◌, ◌-◌, ◌^◌, ℕ, List, Bool, length, min, nat_lt, Option, option_map, slice_get, unwrap_or}
use Rattle.std.specs.List.{fold}
use Rattle.test_report_run_notes.specs.Note.{failed_of}
use Rattle.test_report_run_notes.specs.declared.note.RunEnd.{RunEnd}
use Rattle.test_report_run.specs.FileEnd.{end_of}
use Rattle.test_report_run.specs.Run.{RunState, place_of_number, suite_at}
use Rattle.test_report_run.specs.Running.{RunningView}
use Rattle.test_report_run.specs.Suite.{SuiteState, suite_name}
use Rattle.test_report_run.specs.declared.run.progress.FirstRunning.{FirstRunning}
use Rattle.test_report_run.specs.declared.run.progress.RunNumbers.{RunNumbers}

-- the sum of two numbers. A sum that does not fit 128 bits is the greatest number that does
abbrev pub sum_of : ℕ → ℕ → ℕ
sum_of a b = min (a + b) (2 ^ 128 - 1)

-- the numbers of the suites that are over. The tests that did not run were to run, too
abbrev pub numbers_over : RunEnd → RunNumbers
numbers_over e =
    let ended = sum_of e.stats.finished_count e.skipped in
    record { ended = ended; failed = failed_of e.stats; announced = sum_of ended e.not_run }

-- how many tests of an open suite ended
abbrev pub ended_in : SuiteState → ℕ
ended_in s = s.stats.finished_count + length s.flaky + s.skipped

-- the numbers with those of one more suite that is open
abbrev pub with_open : RunNumbers → SuiteState → RunNumbers
with_open n s = record {
  ended = sum_of n.ended (ended_in s);
  failed = sum_of n.failed (failed_of s.stats);
  announced = sum_of n.announced (unwrap_or s.test_count 0);
}

-- the numbers of a run: those of the suites that are over, of the tests outside of a suite, and of the open suites
abbrev pub numbers_of : RunState → RunNumbers
numbers_of r = fold with_open (with_open (numbers_over (end_of r)) r.outside) r.suites

-- a running test: the name of its suite, its own name, and how many tests started before it
pub record FirstView : Type 0 where
  pub suite : Option (List ℕ)
  pub name : List ℕ
  pub order : ℕ

-- what is known of a running test
abbrev pub first_view : FirstRunning → FirstView
first_view f = record { suite = option_map (λ n. n.now) f.suite; name = f.name.now; order = f.order }

-- the name of the suite with this number, or of the tests outside of a suite
abbrev pub name_of_suite : RunState → Option ℕ → Option (List ℕ)
name_of_suite r number = suite_name (suite_at r (place_of_number r number))

-- a running test with the name of its suite
abbrev pub named_in : RunState → RunningView → FirstView
named_in r t = record { suite = name_of_suite r t.suite; name = t.name; order = t.order }

-- the test that has been running longest: the first one of those that run
abbrev pub first_running : RunState → Option FirstView
first_running r = option_map (named_in r) (slice_get r.running 0)

-- a suite has started
abbrev pub has_suite : RunState → Bool
has_suite r = nat_lt 0 r.suites_started
