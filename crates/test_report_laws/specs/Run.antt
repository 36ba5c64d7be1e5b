-- Laws of a run.
use Rattle.std.specs.Prelude.{◌++◌, ◌≡◌, ◌≢◌, All, IfSome, None, Some, ◌≤◌, ◌<◌, ◌⊎◌, ◌↔◌, ◌+◌, ◌&&◌, [], ℕ, Bool, true, false, Contains, IsTrue, List, if◌then◌else◌, length, nat_lt}
use Rattle.std.specs.List.{count_by, sum_by}
use Rattle.run_events_stats.specs.declared.outcome.run_outcome.RunOutcome.{RunOutcome}
use Rattle.run_events_stats.specs.declared.outcome.run_outcome.RunOutcome.TheVariants as outcome
use Rattle.test_report_events.specs.Event.{EventView, SuiteEndView, TestEndView, SuiteStarts, SuiteEnds, TestStarts, TestEnds, TestIsSlow, OtherLine, HeadingLine, CargoFails, Prints, DamagedLine, CommandStarts, Cancels, CommandOver, AllEndEarly, ProgramContradicts, CommandView, WithStatus}
use Rattle.test_report_events.specs.declared.event.CargoFailure.{CargoFailure}
use Rattle.test_report_events.specs.declared.event.TestResult.{TestResult}
use Rattle.test_report_events.specs.declared.event.TestResult.TheVariants.{Ok, Failed, Ignored}
use Rattle.test_report_run_notes.specs.Note.{Contradicts, Fails, FlakyEnds, HasCrashed, HasFailed, HasNoEnd, HasTimedOut, IsFlaky, IsNotRun, IsSkipped, IsStopped, KindView, NoteView, OutcomeView, Passes, SuiteIs, SuiteNoteView, TestIs, TestNoteView, failed_of}
use Rattle.test_report_run_notes.specs.declared.note.RunEnd.{RunEnd}
use Rattle.test_report_run_notes.specs.declared.note.SaidNumbers.{SaidNumbers}
use Rattle.test_report_run.specs.Events.{is_event}
use Rattle.test_report_run.specs.Ended.{failure_of}
use Rattle.test_report_run.specs.Others.{OthersView}
use Rattle.test_report_run.specs.Over.{EarlyEnd, early_notes, last_notes}
use Rattle.test_report_run.specs.FileEnd.{file_notes}
use Rattle.test_report_run.specs.Run.{RunSettings, RunState, counts_tests, has_failed, is_contradiction, notes_at, open_suite, run_start, told}
use Rattle.test_report_run.specs.Running.{RunningView, ends_in_number, without_number}
use Rattle.test_report_run.specs.Said.{numbers_of}
use Rattle.test_report_run.specs.Suite.{SuiteState}
use Rattle.test_report_laws.specs.Whole.{IsFileEndOf, IsLineOf, all_notes, notes_of, run_after, run_after_files, run_at_end, whole_end}

-- One failed test for each line that says so.

-- the result of a test is a failure
abbrev pub is_failure : TestResult → Bool
is_failure Ok = false
is_failure Failed = true
is_failure Ignored = false

-- the line says that a test failed
abbrev pub says_failed : EventView → Bool
says_failed (TestEnds e) = is_failure e.result
says_failed (SuiteStarts key count) = false
says_failed (SuiteEnds e) = false
says_failed (TestStarts name) = false
says_failed (TestIsSlow name) = false
says_failed OtherLine = false
says_failed (HeadingLine name path) = false
says_failed (CargoFails f line plain) = false
says_failed (Prints line plain) = false
says_failed (DamagedLine text) = false
says_failed (CommandStarts names) = false
says_failed (Cancels why) = false
says_failed (CommandOver end) = false
says_failed (AllEndEarly end) = false
says_failed (ProgramContradicts fault) = false

-- a failure of this kind has a line that says so
abbrev pub is_told : KindView → Bool
is_told HasFailed = true
is_told HasTimedOut = true
is_told HasNoEnd = false
is_told IsFlaky = false
is_told (HasCrashed crash) = false

-- the test failed, and a line says so
abbrev pub fails_as_told : OutcomeView → Bool
fails_as_told (Passes output) = false
fails_as_told (IsSkipped reason) = false
fails_as_told IsStopped = false
fails_as_told (Fails failure) = is_told failure.kind

-- the note is of a failed test whose line says that it failed
abbrev pub is_told_failure : NoteView → Bool
is_told_failure (TestIs t) = fails_as_told t.outcome
is_told_failure (FlakyEnds t) = false
is_told_failure (Contradicts d) = false
is_told_failure (IsNotRun suite n of) = false
is_told_failure (SuiteIs s) = false

-- the test has the name that is written, or the one without `#N` after N attempts
abbrev pub IsNamed : TestNoteView → List ℕ → Type 0
IsNamed t written =
    ((t.name ≡ written) × (t.attempts ≡ 1))
    ⊎ (IsTrue (ends_in_number written t.attempts) × (t.name ≡ without_number written t.attempts))

-- the note of a failed test has what the line says: the name, the time and how the test failed
abbrev pub TellsFailure : TestEndView → TestNoteView → Type 0
TellsFailure e t = IsNamed t e.name × (t.time ≡ e.time) × (t.outcome ≡ Fails (failure_of e))

-- A line that says that a test failed makes one failed test known, and no other line does.
abbrev pub OneFailureOfLine : Type 0
OneFailureOfLine = (r : RunState) → (e : EventView) → count_by is_told_failure (notes_at r e) ≡ (if says_failed e then 1 else 0)

-- The end of a file makes no failed test known whose line says that it failed.
abbrev pub NoFailureOfFileEnd : Type 0
NoFailureOfFileEnd = (r : RunState) → count_by is_told_failure (file_notes r) ≡ 0

-- The failed test that a line makes known has the name, the time and the reason of the line.
abbrev pub FailureIsTold : Type 0
FailureIsTold = (r : RunState) → (e : TestEndView) → e.result ≡ Failed
    → (t : TestNoteView) × TellsFailure e t × Contains (notes_at r (TestEnds e)) (TestIs t)

-- Totals are counts over all tests.

-- the note is of a test, and the rule is true of this test
abbrev pub is_test : (TestNoteView → Bool) → NoteView → Bool
is_test rule (TestIs t) = rule t
is_test rule (FlakyEnds t) = false
is_test rule (Contradicts d) = false
is_test rule (IsNotRun suite n of) = false
is_test rule (SuiteIs s) = false

-- the test passed
abbrev pub has_passed : OutcomeView → Bool
has_passed (Passes output) = true
has_passed (IsSkipped reason) = false
has_passed IsStopped = false
has_passed (Fails failure) = false

-- the test was skipped
abbrev pub was_skipped : OutcomeView → Bool
was_skipped (Passes output) = false
was_skipped (IsSkipped reason) = true
was_skipped IsStopped = false
was_skipped (Fails failure) = false

-- the failure is of a test that ran out of time
abbrev pub is_timed_out : KindView → Bool
is_timed_out HasFailed = false
is_timed_out HasTimedOut = true
is_timed_out HasNoEnd = false
is_timed_out IsFlaky = false
is_timed_out (HasCrashed crash) = false

-- the failure is a crash
abbrev pub is_crash : KindView → Bool
is_crash HasFailed = false
is_crash HasTimedOut = false
is_crash HasNoEnd = false
is_crash IsFlaky = false
is_crash (HasCrashed crash) = true

-- the test failed, and this holds of the kind of its failure
abbrev pub fails_by : (KindView → Bool) → OutcomeView → Bool
fails_by rule (Passes output) = false
fails_by rule (IsSkipped reason) = false
fails_by rule IsStopped = false
fails_by rule (Fails failure) = rule failure.kind

-- how many tests passed
abbrev pub passed_in : List NoteView → ℕ
passed_in notes = count_by (is_test (λ t. has_passed t.outcome)) notes

-- how many tests passed after more than one attempt
abbrev pub flaky_in : List NoteView → ℕ
flaky_in notes = count_by (is_test (λ t. has_passed t.outcome && nat_lt 1 t.attempts)) notes

-- how many tests passed and were slow
abbrev pub slow_in : List NoteView → ℕ
slow_in notes = count_by (is_test (λ t. has_passed t.outcome && t.slow)) notes

-- how many tests were skipped
abbrev pub skipped_in : List NoteView → ℕ
skipped_in notes = count_by (is_test (λ t. was_skipped t.outcome)) notes

-- how many tests failed
abbrev pub failed_in : List NoteView → ℕ
failed_in notes = count_by (is_test (λ t. has_failed t.outcome)) notes

-- how many tests ran out of time
abbrev pub timed_out_in : List NoteView → ℕ
timed_out_in notes = count_by (is_test (λ t. fails_by is_timed_out t.outcome)) notes

-- how many tests crashed
abbrev pub crashed_in : List NoteView → ℕ
crashed_in notes = count_by (is_test (λ t. fails_by is_crash t.outcome)) notes

-- how many tests of a suite that is over were not run
abbrev pub not_run_of : NoteView → ℕ
not_run_of (TestIs t) = 0
not_run_of (FlakyEnds t) = 0
not_run_of (Contradicts d) = 0
not_run_of (IsNotRun suite n of) = 0
not_run_of (SuiteIs s) = s.not_run

-- how many tests of all suites were not run
abbrev pub not_run_in : List NoteView → ℕ
not_run_in notes = sum_by not_run_of notes

-- The sums at the end of a run count the tests that became known. More tests may be skipped, since a last line of a suite may count
-- more of them than have lines.
pub record Counts (notes : List NoteView) (end : RunEnd) : Type 0 where
  pub finished : end.stats.finished_count ≡ passed_in notes + failed_in notes
  pub passed : end.stats.passed ≡ passed_in notes
  pub failed : failed_of end.stats ≡ failed_in notes
  pub flaky : end.stats.flaky ≡ flaky_in notes
  pub slow : end.stats.passed_slow ≡ slow_in notes
  pub timed_out : end.stats.failed_timed_out ≡ timed_out_in notes
  pub crashed : end.crashed ≡ crashed_in notes
  pub skipped : skipped_in notes ≤ end.skipped
  pub not_run : end.not_run ≡ not_run_in notes

-- The sums at the end of every run are such counts.
abbrev pub TotalsAreCounts : Type 0
TotalsAreCounts = (settings : RunSettings) → (files : List (List EventView)) → Counts (all_notes settings files) (whole_end settings files)

-- What the outcome means.

-- how many contradictions there are
abbrev pub contradictions_in : List NoteView → ℕ
contradictions_in notes = count_by is_contradiction notes

-- no test failed, there is no contradiction, and no suite has tests that were not run
pub record IsClean (notes : List NoteView) : Type 0 where
  pub none_failed : failed_in notes ≡ 0
  pub none_contradict : contradictions_in notes ≡ 0
  pub all_run : not_run_in notes ≡ 0

-- The outcome is `Success` if and only if the run is clean and a test passed, and `NoTestsRun` if and only if it is clean and no test passed. Every
-- other outcome has a cause: a failed test, a contradiction or a test that was not run.
pub record Means (notes : List NoteView) (o : RunOutcome) : Type 0 where
  pub success : (o ≡ outcome.Success) ↔ (IsClean notes × (0 < passed_in notes))
  pub no_tests : (o ≡ outcome.NoTestsRun) ↔ (IsClean notes × (passed_in notes ≡ 0))
  pub others : o ≢ outcome.Success → o ≢ outcome.NoTestsRun → 0 < failed_in notes + contradictions_in notes + not_run_in notes

-- This is what the outcome of every run means.
abbrev pub OutcomeMeans : Type 0
OutcomeMeans = (settings : RunSettings) → (files : List (List EventView)) → Means (all_notes settings files) (whole_end settings files).outcome

-- Nothing is hidden.

-- the numbers of a last line are those of the tests, and its verdict too
pub record Agrees (said : SaidNumbers) (passed failed : ℕ) : Type 0 where
  pub verdict : IsTrue said.failed_verdict ↔ (0 < failed)
  pub passed_number : IfSome said.passed (λ n. n ≡ passed)
  pub failed_number : IfSome said.failed (λ n. n ≡ failed)

-- the flaky tests of a suite had more than one attempt, and no more tests passed than finished, as in each suite of a run
pub record IsSound (s : SuiteState) : Type 0 where
  pub retried : All (λ f. IsTrue (nat_lt 1 f.test.attempts)) s.flaky
  pub passed : s.stats.passed ≤ s.stats.finished_count

-- A suite that ends by its last line makes no contradiction known if and only if the line agrees with the tests: those that became known before, and
-- those that become known now.
abbrev pub LastLineAgrees : Type 0
LastLineAgrees = (s : SuiteState) → (tests : List RunningView) → s.number ≢ None → IsSound s
    → (contradictions_in (last_notes s tests) ≡ 0)
    ↔ Agrees (numbers_of s.said) (s.stats.passed + passed_in (last_notes s tests)) (failed_of s.stats + failed_in (last_notes s tests))

-- A suite that ends early makes a crashed test or a contradiction known, and so does a file with tests outside of a suite.
abbrev pub EarlyEndShows : Type 0
EarlyEndShows = (others : OthersView) → (how : EarlyEnd) → (s : SuiteState) → (tests : List RunningView) → (s.number ≡ None → 0 < s.started)
    → 0 < crashed_in (early_notes others how s tests) + contradictions_in (early_notes others how s tests)

-- A last line of a suite that is not open makes by itself a contradiction known if and only if it has a failed verdict or counts tests that ran.
abbrev pub StrayEndShows : Type 0
StrayEndShows = (r : RunState) → (e : SuiteEndView) → open_suite r e.key ≡ None
    → contradictions_in (told r (SuiteEnds e)).notes ≡ (if counts_tests e then 1 else 0)

-- how many lines of a file say that a test failed
abbrev pub failed_lines_in : List EventView → ℕ
failed_lines_in file = count_by says_failed file

-- how many lines of all files say that a test failed
abbrev pub failed_lines_of : List (List EventView) → ℕ
failed_lines_of files = sum_by failed_lines_in files

-- A whole run has as many failed tests whose lines say so as it has such lines.
abbrev pub FailedLinesAreTold : Type 0
FailedLinesAreTold = (settings : RunSettings) → (files : List (List EventView)) → count_by is_told_failure (all_notes settings files) ≡ failed_lines_of files

-- If a line of a run says that a test failed, the outcome is neither `Success` nor `NoTestsRun`.
abbrev pub FailedLineShows : Type 0
FailedLineShows = (settings : RunSettings) → (files : List (List EventView)) → 0 < failed_lines_of files
    → ((whole_end settings files).outcome ≢ outcome.Success) × ((whole_end settings files).outcome ≢ outcome.NoTestsRun)

-- When these files, and these lines of the next file, are read, each open suite is sound. So are the tests outside of suites.
abbrev pub SuitesAreSound : Type 0
SuitesAreSound = (settings : RunSettings) → (files : List (List EventView)) → (events : List EventView) → (r : RunState)
    → r ≡ run_after (run_after_files (run_start settings) files) events
    → IsSound r.outside × All IsSound r.suites

-- The failed tests that an open suite counts are among those that became known so far.
abbrev pub FailuresAreKnown : Type 0
FailuresAreKnown = (settings : RunSettings) → (files : List (List EventView)) → (events : List EventView) → (r : RunState)
    → r ≡ run_after (run_after_files (run_start settings) files) events
    → All (λ s. failed_of s.stats ≤ failed_in (all_notes settings files ++ notes_of (run_after_files (run_start settings) files) events)) r.suites

-- What `Success` means for the last lines of suites, for what was announced, and for failures of cargo.

-- a last line of a suite has a failed verdict
abbrev pub says_failed_verdict : EventView → Bool
says_failed_verdict (SuiteEnds e) = e.failed_verdict
says_failed_verdict (TestEnds e) = false
says_failed_verdict (SuiteStarts key count) = false
says_failed_verdict (TestStarts name) = false
says_failed_verdict (TestIsSlow name) = false
says_failed_verdict OtherLine = false
says_failed_verdict (HeadingLine name path) = false
says_failed_verdict (CargoFails f line plain) = false
says_failed_verdict (Prints line plain) = false
says_failed_verdict (DamagedLine text) = false
says_failed_verdict (CommandStarts names) = false
says_failed_verdict (Cancels why) = false
says_failed_verdict (CommandOver end) = false
says_failed_verdict (AllEndEarly end) = false
says_failed_verdict (ProgramContradicts fault) = false

-- how many last lines of suites in a file have a failed verdict
abbrev pub failed_verdicts_in : List EventView → ℕ
failed_verdicts_in file = count_by says_failed_verdict file

-- how many last lines of suites in all files have a failed verdict
abbrev pub failed_verdicts_of : List (List EventView) → ℕ
failed_verdicts_of files = sum_by failed_verdicts_in files

-- If the last line of a suite has a failed verdict, the outcome is neither `Success` nor `NoTestsRun`.
abbrev pub FailedVerdictShows : Type 0
FailedVerdictShows = (settings : RunSettings) → (files : List (List EventView)) → 0 < failed_verdicts_of files
    → ((whole_end settings files).outcome ≢ outcome.Success) × ((whole_end settings files).outcome ≢ outcome.NoTestsRun)

-- the line is damaged, and says that a test or a suite failed
abbrev pub is_damaged : EventView → Bool
is_damaged (DamagedLine text) = true
is_damaged (SuiteStarts key count) = false
is_damaged (SuiteEnds e) = false
is_damaged (TestStarts name) = false
is_damaged (TestEnds e) = false
is_damaged (TestIsSlow name) = false
is_damaged OtherLine = false
is_damaged (HeadingLine name path) = false
is_damaged (CargoFails f line plain) = false
is_damaged (Prints line plain) = false
is_damaged (CommandStarts names) = false
is_damaged (Cancels why) = false
is_damaged (CommandOver end) = false
is_damaged (AllEndEarly end) = false
is_damaged (ProgramContradicts fault) = false

-- how many lines of a file are damaged, and say that a test or a suite failed
abbrev pub damaged_lines_in : List EventView → ℕ
damaged_lines_in file = count_by is_damaged file

-- how many lines of all files are
abbrev pub damaged_lines_of : List (List EventView) → ℕ
damaged_lines_of files = sum_by damaged_lines_in files

-- If a damaged line says that a test or a suite failed, the outcome is neither `Success` nor `NoTestsRun`.
abbrev pub DamagedLineShows : Type 0
DamagedLineShows = (settings : RunSettings) → (files : List (List EventView)) → 0 < damaged_lines_of files
    → ((whole_end settings files).outcome ≢ outcome.Success) × ((whole_end settings files).outcome ≢ outcome.NoTestsRun)

-- how many lines of a file are events of a harness
abbrev pub events_in : List EventView → ℕ
events_in file = count_by is_event file

-- If a file has no event of a harness, and is not the output of a command that has ended, the outcome is neither `Success` nor `NoTestsRun`.
abbrev pub NoEventShows : Type 0
NoEventShows = (settings : RunSettings) → (files : List (List EventView)) → (r : RunState) → (end : IsFileEndOf settings files r) → events_in end.file ≡ 0
    → r.command ≡ None
    → ((whole_end settings files).outcome ≢ outcome.Success) × ((whole_end settings files).outcome ≢ outcome.NoTestsRun)

-- If a command could not be started, was ended by a signal, or ended with a status above 0, the outcome is neither `Success` nor `NoTestsRun`.
abbrev pub CommandEndShows : Type 0
CommandEndShows = (settings : RunSettings) → (files : List (List EventView)) → (r : RunState) → IsFileEndOf settings files r → (end : CommandView)
    → r.command ≡ Some end → end ≢ WithStatus 0
    → ((whole_end settings files).outcome ≢ outcome.Success) × ((whole_end settings files).outcome ≢ outcome.NoTestsRun)

-- each test without end was skipped, and at least as many tests finished or were skipped as were announced
pub record IsWhole (s : SuiteState) (tests : List RunningView) : Type 0 where
  pub no_test_lost : skipped_in (last_notes s tests) ≡ length tests
  pub all_announced : (n : SuiteNoteView) → Contains (last_notes s tests) (SuiteIs n)
      → IfSome s.test_count (λ count. count ≤ n.stats.finished_count + n.skipped)

-- If a suite that ends by its last line makes no failed test, no contradiction and no test that was not run known, it is whole.
abbrev pub CleanEndIsWhole : Type 0
CleanEndIsWhole = (s : SuiteState) → (tests : List RunningView) → IsClean (last_notes s tests) → IsWhole s tests

-- If cargo reports a failure while no suite is open, in a file that is not the output of a command, a test failed or a contradiction becomes known.
abbrev pub CargoFailureShows : Type 0
CargoFailureShows = (settings : RunSettings) → (files : List (List EventView)) → (r : RunState) → (f : CargoFailure) → (line plain : List ℕ)
    → (at : IsLineOf settings files r (CargoFails f line plain)) → r.suites ≡ [] → (run_at_end at).of_command ≡ false
    → 0 < failed_in (all_notes settings files) + contradictions_in (all_notes settings files)
