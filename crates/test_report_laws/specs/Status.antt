-- What the outcome of a whole run says of its lines: what a run that succeeds has no line of, and why another one does not.
use Rattle.std.specs.Prelude.{◌+◌, [], ◌≡◌, ◌≢◌, ◌≤◌, ◌<◌, ◌⊎◌, ◌||◌, ◌&&◌, ℕ, Bool, true, false, Contains, IfSome, IsTrue, List, None, Option, Some, if◌then◌else◌, is_none, length}
use Rattle.std.specs.List.{sum_by}
use Rattle.std.specs.Option.{option_map_or}
use Rattle.run_events_stats.specs.declared.outcome.run_outcome.RunOutcome.TheVariants as outcome
use Rattle.test_report_events.specs.Event.{EarlyEndView, EventView, SuiteEndView, SuiteStarts, SuiteEnds, TestStarts, TestEnds, TestIsSlow, OtherLine, HeadingLine, CargoFails, Prints, DamagedLine, CommandStarts, Cancels, CommandOver, AllEndEarly, ProgramContradicts, WithStatus}
use Rattle.test_report_events.specs.declared.event.CargoFailure.{CargoFailure}
use Rattle.test_report_run_notes.specs.Note.{Contradicts, Fails, FlakyEnds, IsNotRun, IsSkipped, IsStopped, NoteView, OutcomeView, Passes, SuiteIs, TestIs, TestNoteView}
use Rattle.test_report_run_notes.specs.declared.note.RunEnd.{RunEnd}
use Rattle.test_report_laws.specs.Run.{Agrees, IsClean, damaged_lines_of, events_in, failed_lines_of, failed_verdicts_of, not_run_in, passed_in, skipped_in}
use Rattle.test_report_run.specs.Running.{RunningView}
use Rattle.test_report_run.specs.Over.{last_notes}
use Rattle.test_report_run.specs.Run.{RunSettings, RunState, counts_tests, is_cause, open_suite, suite_at, tests_in}
use Rattle.test_report_run.specs.Said.{numbers_of}
use Rattle.test_report_run.specs.Suite.{SuiteState, cancelled_by, with_line}
use Rattle.test_report_laws.specs.Whole.{IsFileEndOf, IsLineOf, all_notes, run_at_end, whole_end}

-- a run with this end succeeded
abbrev pub Succeeds : RunEnd → Type 0
Succeeds end = end.outcome ≡ outcome.Success

-- no test of a run with this end ran, and nothing was wrong
abbrev pub RanNoTests : RunEnd → Type 0
RanNoTests end = end.outcome ≡ outcome.NoTestsRun

-- Why a run does not succeed.

-- the test was stopped
abbrev pub was_stopped : OutcomeView → Bool
was_stopped (Passes output) = false
was_stopped (IsSkipped reason) = false
was_stopped IsStopped = true
was_stopped (Fails failure) = false

-- the test was stopped, and is of no suite
abbrev pub is_stopped_outside : TestNoteView → Bool
is_stopped_outside t = was_stopped t.outcome && is_none t.suite

-- how many tests of a suite were not run, by the note that names the suite. A test of no suite that was stopped has a note that names it
abbrev pub named_not_run : NoteView → ℕ
named_not_run (TestIs t) = if is_stopped_outside t then 1 else 0
named_not_run (FlakyEnds t) = 0
named_not_run (Contradicts d) = 0
named_not_run (IsNotRun suite n of) = n
named_not_run (SuiteIs s) = 0

-- Each test that was not run is in a note that names its suite, or, if it is of no suite, in a note that names the test.
abbrev pub NotRunIsNamed : Type 0
NotRunIsNamed = (settings : RunSettings) → (files : List (List EventView))
    → sum_by named_not_run (all_notes settings files) ≡ not_run_in (all_notes settings files)

-- the note is of a suite whose tests were not all run
abbrev pub is_not_run : NoteView → Bool
is_not_run (TestIs t) = false
is_not_run (FlakyEnds t) = false
is_not_run (Contradicts d) = false
is_not_run (IsNotRun suite n of) = true
is_not_run (SuiteIs s) = false

-- the note says why a run does not succeed: a failed test, a contradiction, or a suite whose tests were not all run
abbrev pub is_reason : NoteView → Bool
is_reason note = is_cause note || is_not_run note

-- A run that does not succeed has such a note, or no test of it ran.
abbrev pub FailureHasReason : Type 0
FailureHasReason = (settings : RunSettings) → (files : List (List EventView)) → ¬ (Succeeds (whole_end settings files))
    → ((note : NoteView) × Contains (all_notes settings files) note × IsTrue (is_reason note))
    ⊎ (RanNoTests (whole_end settings files) × (passed_in (all_notes settings files) ≡ 0))

-- What a run that succeeds has no line of.

-- how many tests a line announces
abbrev pub announced_by : EventView → ℕ
announced_by (SuiteStarts key count) = option_map_or (λ n. n) count 0
announced_by (SuiteEnds e) = 0
announced_by (TestStarts name) = 0
announced_by (TestEnds e) = 0
announced_by (TestIsSlow name) = 0
announced_by OtherLine = 0
announced_by (HeadingLine name path) = 0
announced_by (CargoFails f line plain) = 0
announced_by (Prints line plain) = 0
announced_by (DamagedLine text) = 0
announced_by (CommandStarts names) = 0
announced_by (Cancels why) = 0
announced_by (CommandOver end) = 0
announced_by (AllEndEarly end) = 0
announced_by (ProgramContradicts fault) = 0

-- how many tests the first lines of suites announce in all files
abbrev pub announced_of : List (List EventView) → ℕ
announced_of files = sum_by (λ file. sum_by announced_by file) files

-- At least as many tests finished, were skipped or were counted as not run as were announced.
abbrev pub AnnouncedAreCounted : Type 0
AnnouncedAreCounted = (settings : RunSettings) → (files : List (List EventView))
    → announced_of files ≤ (whole_end settings files).stats.finished_count + (whole_end settings files).skipped + (whole_end settings files).not_run

-- the last line of a suite is in order, while these tests run: it has no failed verdict, counts no failed test, and counts the passed tests
-- as they are; and each of the running tests was skipped
pub record EndsInOrder (s : SuiteState) (tests : List RunningView) : Type 0 where
  pub numbers : Agrees (numbers_of s.said) (s.stats.passed + passed_in (last_notes s tests)) 0
  pub no_test_lost : skipped_in (last_notes s tests) ≡ length tests

-- nothing is wrong with the lines of a run
pub record IsInOrder (settings : RunSettings) (files : List (List EventView)) : Type 0 where
  -- no test failed, there is no contradiction, and no suite has tests that were not run
  pub clean : IsClean (all_notes settings files)
  -- no line says that a test failed, and no last line of a suite has a failed verdict
  pub no_failed_line : failed_lines_of files ≡ 0
  pub no_failed_verdict : failed_verdicts_of files ≡ 0
  -- no damaged line says that a test or a suite failed
  pub no_damaged_line : damaged_lines_of files ≡ 0
  -- each command whose end is known ended with status 0
  pub commands : (r : RunState) → IsFileEndOf settings files r → IfSome r.command (λ end. end ≡ WithStatus 0)
  -- each file has an event of a harness, other than the output of a command
  pub events : (r : RunState) → (end : IsFileEndOf settings files r) → r.command ≡ None → 0 < events_in end.file
  -- each last line that ends a suite says what the tests of the suite are
  pub last_lines : (r : RunState) → (e : SuiteEndView) → (at : ℕ) → IsLineOf settings files r (SuiteEnds e) → open_suite r e.key ≡ Some at
      → let s = cancelled_by r.cancel (with_line (suite_at r (Some at)) e) in s.open_lines ≡ 0 → EndsInOrder s (tests_in r s)
  -- a last line while its suite is not open counts no test that ran
  pub stray_lines : (r : RunState) → (e : SuiteEndView) → IsLineOf settings files r (SuiteEnds e) → open_suite r e.key ≡ None → counts_tests e ≡ false
  -- each suite ends by its last line: none is open when another one without key starts in its place, or at the end of a file
  pub one_without_key : (r : RunState) → (count : Option ℕ) → IsLineOf settings files r (SuiteStarts None count) → open_suite r None ≡ None
  pub none_open : (r : RunState) → IsFileEndOf settings files r → r.suites ≡ []
  -- no test starts outside of a suite
  pub none_outside : (r : RunState) → IsFileEndOf settings files r → r.outside.started ≡ 0
  -- no suite is open, and no test has started outside of a suite, where a line says that all that is open ends early
  pub none_early : (r : RunState) → (end : EarlyEndView) → IsLineOf settings files r (AllEndEarly end) → (r.suites ≡ []) × (r.outside.started ≡ 0)
  -- at least as many tests finished or were skipped as were announced
  pub announced : announced_of files ≤ (whole_end settings files).stats.finished_count + (whole_end settings files).skipped
  -- a failure of cargo is read only while a suite is open, when it is a print of a test, or in the output of a command
  pub cargo : (r : RunState) → (f : CargoFailure) → (line plain : List ℕ) → (at : IsLineOf settings files r (CargoFails f line plain))
      → (run_at_end at).of_command ≡ false → r.suites ≢ []

-- If a run succeeds, a test passed and nothing is wrong with its lines. If no test ran, no test passed, and nothing is wrong either.
abbrev pub SuccessIsInOrder : Type 0
SuccessIsInOrder = (settings : RunSettings) → (files : List (List EventView))
    → (Succeeds (whole_end settings files) → (0 < passed_in (all_notes settings files)) × IsInOrder settings files)
    × (RanNoTests (whole_end settings files) → (passed_in (all_notes settings files) ≡ 0) × IsInOrder settings files)
