-- What becomes known of a run.
use Rattle.std.specs.Prelude.{◌==◌, ◌-◌, ℕ, List, Bool, false, true, map, None, Option, Some, option_map, String, string_bytes}
use Rattle.std.specs.declared.alloc.Global.{Global}
use Rattle.run_events_results.specs.declared.results.CancelReason.{CancelReason}
use Rattle.run_events_stats.specs.declared.stats.RunStats.{RunStats}
use Rattle.test_report_events.specs.Event.{BySignal, CommandView, EndsUnexplained, EndsUnstarted, IsCutOff, NeverEnds, NotStarted, ProgramFaultView, RunsNoTest, WithError, WithStatus}
use Rattle.test_report_events.specs.declared.event.TestResult.{TestResult}
use Rattle.test_report_events.specs.declared.program.ProgramEnd.{ProgramEnd}
use Rattle.test_report_run_notes.specs.declared.note.CargoReport.{CargoReport}
use Rattle.test_report_run_notes.specs.declared.note.CommandEnd.{CommandEnd}
use Rattle.test_report_run_notes.specs.declared.note.CommandEnd.TheVariants as command
use Rattle.test_report_run_notes.specs.declared.note.Contradiction.{Contradiction}
use Rattle.test_report_run_notes.specs.declared.note.Contradiction.TheVariants as contradiction
use Rattle.test_report_run_notes.specs.declared.note.Crash.{Crash}
use Rattle.test_report_run_notes.specs.declared.note.Failure.{Failure}
use Rattle.test_report_run_notes.specs.declared.note.FailureKind.{FailureKind}
use Rattle.test_report_run_notes.specs.declared.note.FailureKind.TheVariants as kind
use Rattle.test_report_run_notes.specs.declared.note.Note.{Note}
use Rattle.test_report_run_notes.specs.declared.note.Note.TheVariants as note
use Rattle.test_report_run_notes.specs.declared.note.ProgramFault.{ProgramFault}
use Rattle.test_report_run_notes.specs.declared.note.ProgramFault.TheVariants as fault
use Rattle.test_report_run_notes.specs.declared.note.SaidNumbers.{SaidNumbers}
use Rattle.test_report_run_notes.specs.declared.note.SuiteNote.{SuiteNote}
use Rattle.test_report_run_notes.specs.declared.note.TestNote.{TestNote}
use Rattle.test_report_run_notes.specs.declared.note.TestOutcome.{TestOutcome}
use Rattle.test_report_run_notes.specs.declared.note.TestOutcome.TheVariants as outcome

-- How a test crashed: how many tests crashed so, whether its suite has a key, and how its program ended, if that is known. The line in which cargo names
-- the cause, the text of the prints, and the last three of these that are not blank may say why. The last field says whether another test of the suite
-- crashed before it.
pub record CrashView : Type 0 where
  pub running : ℕ
  pub has_key : Bool
  pub end : Option ProgramEnd
  pub cause : Option (List ℕ)
  pub prints : List ℕ
  pub last : List (List ℕ)
  pub above : Bool

-- the kind of a failure
pub data KindView : Type 0 where
  HasFailed : KindView
  HasTimedOut : KindView
  HasNoEnd : KindView
  IsFlaky : KindView
  HasCrashed : CrashView → KindView

-- a failure: its kind, and the output, the message of the harness and its reason
pub record FailureView : Type 0 where
  pub kind : KindView
  pub stdout : Option (List ℕ)
  pub message : Option (List ℕ)
  pub reason : Option (List ℕ)

-- how a test counts. One that passed may have output, and a skipped one a reason. One that was stopped ran when its suite ended early and did not crash: it
-- counts as not run
pub data OutcomeView : Type 0 where
  Passes : Option (List ℕ) → OutcomeView
  IsSkipped : Option (List ℕ) → OutcomeView
  IsStopped : OutcomeView
  Fails : FailureView → OutcomeView

-- a test, and how it counts
pub record TestNoteView : Type 0 where
  pub suite : Option (List ℕ)
  pub name : List ℕ
  pub attempts : ℕ
  pub time : Option ℕ
  pub ended : Option ℕ
  pub slow : Bool
  pub cancel : Option CancelReason
  pub outcome : OutcomeView

-- A failure of cargo: its line, the prints before it, the line in which cargo names the cause, and whether it lacks events: it is the first failure of
-- its file that says that tests failed, and no event comes before it or right after it.
pub record CargoView : Type 0 where
  pub line : List ℕ
  pub prints : List ℕ
  pub cause : Option (List ℕ)
  pub lacks_events : Bool

-- a contradiction between lines
pub data ContradictionView : Type 0 where
  -- the name of the suite, and how its program ended, if that is known
  EndsEarly : List ℕ → Option ProgramEnd → ContradictionView
  SaysOther : List ℕ → SaidNumbers → ℕ → ℕ → ContradictionView
  StrayEnds : List ℕ → TestResult → ContradictionView
  StraySuiteEnds : Option (List ℕ) → Bool → ContradictionView
  StartsOutside : ℕ → ContradictionView
  CargoSays : CargoView → ContradictionView
  IsDamaged : List ℕ → ContradictionView
  -- the name of the file, if the files of the run have names
  HasNoEvent : Option (List ℕ) → ContradictionView
  CommandFails : CommandView → ContradictionView
  OfProgram : ProgramFaultView → ContradictionView
  -- the run was cancelled for this reason, and something did not end as it would have
  WasCancelled : CancelReason → ContradictionView

-- a suite that is over
pub record SuiteNoteView : Type 0 where
  pub name : Option (List ℕ)
  pub stats : RunStats
  pub skipped : ℕ
  pub not_run : ℕ
  pub crashed : ℕ
  pub time : Option ℕ

-- what becomes known
pub data NoteView : Type 0 where
  TestIs : TestNoteView → NoteView
  -- a test passed after several attempts, and how it counts is not known yet
  FlakyEnds : TestNoteView → NoteView
  Contradicts : ContradictionView → NoteView
  -- the name of a suite, how many of its tests were not run, and how many were to run
  IsNotRun : List ℕ → ℕ → ℕ → NoteView
  SuiteIs : SuiteNoteView → NoteView

-- a text that may be absent
abbrev pub text_view : Option (String Global) → Option (List ℕ)
text_view text = option_map string_bytes text

-- what a crash says
abbrev pub crash_view : Crash → CrashView
crash_view c = record {
  running = c.running;
  has_key = c.has_key;
  end = c.end;
  cause = text_view c.cause;
  prints = string_bytes c.prints.value;
  last = map string_bytes c.last.items;
  above = c.above;
}

-- what the kind of a failure says
abbrev pub kind_view : FailureKind → KindView
kind_view kind.Failed = HasFailed
kind_view kind.TimedOut = HasTimedOut
kind_view kind.WithoutEnd = HasNoEnd
kind_view kind.Flaky = IsFlaky
kind_view (kind.Crashed crash) = HasCrashed (crash_view crash)

-- what a failure says
abbrev pub failure_view : Failure → FailureView
failure_view f = record {
  kind = kind_view f.kind;
  stdout = text_view f.stdout;
  message = text_view f.message;
  reason = text_view f.reason;
}

-- what the outcome of a test says
abbrev pub outcome_view : TestOutcome → OutcomeView
outcome_view (outcome.Passed output) = Passes (text_view output)
outcome_view (outcome.Skipped reason) = IsSkipped (text_view reason)
outcome_view outcome.Stopped = IsStopped
outcome_view (outcome.Failed failure) = Fails (failure_view failure)

-- what the note of a test says
abbrev pub test_view : TestNote → TestNoteView
test_view t = record {
  suite = option_map (λ n. string_bytes n.value) t.suite;
  name = string_bytes t.name;
  attempts = t.attempts;
  time = t.time;
  ended = t.ended;
  slow = t.slow;
  cancel = t.cancel;
  outcome = outcome_view t.outcome;
}

-- what a failure of cargo says
abbrev pub cargo_view : CargoReport → CargoView
cargo_view r = record { line = string_bytes r.line; prints = string_bytes r.prints; cause = text_view r.cause; lacks_events = r.lacks_events }

-- how a command ended
abbrev pub command_view : CommandEnd → CommandView
command_view (command.NotStarted error) = NotStarted (string_bytes error)
command_view (command.Signal number) = BySignal number
command_view (command.Status code) = WithStatus code
command_view (command.Error code words) = WithError code (string_bytes words)

-- what is wrong with the lines of programs
abbrev pub fault_view : ProgramFault → ProgramFaultView
fault_view (fault.Unexplained program end) = EndsUnexplained (string_bytes program) end
fault_view (fault.NoTests program) = RunsNoTest (string_bytes program)
fault_view (fault.NoEnd program) = NeverEnds (string_bytes program)
fault_view (fault.NotStarted end) = EndsUnstarted end
fault_view fault.CutOff = IsCutOff

-- what a contradiction says
abbrev pub contradiction_view : Contradiction → ContradictionView
contradiction_view (contradiction.EndedEarly suite end) = EndsEarly (string_bytes suite.value) end
contradiction_view (contradiction.LastLine suite said passed failed) = SaysOther (string_bytes suite.value) said passed failed
contradiction_view (contradiction.StrayEnd name outcome) = StrayEnds (string_bytes name) outcome
contradiction_view (contradiction.StraySuiteEnd key failed) = StraySuiteEnds (text_view key) failed
contradiction_view (contradiction.OutsideSuite started) = StartsOutside started
contradiction_view (contradiction.Cargo report) = CargoSays (cargo_view report)
contradiction_view (contradiction.Damaged text) = IsDamaged (string_bytes text)
contradiction_view (contradiction.NoEvent file) = HasNoEvent (text_view file)
contradiction_view (contradiction.Command end) = CommandFails (command_view end)
contradiction_view (contradiction.Program fault) = OfProgram (fault_view fault)
contradiction_view (contradiction.Cancelled reason) = WasCancelled reason

-- what the note of a suite says
abbrev pub suite_view : SuiteNote → SuiteNoteView
suite_view s = record {
  name = option_map (λ n. string_bytes n.value) s.name;
  stats = s.stats;
  skipped = s.skipped;
  not_run = s.not_run;
  crashed = s.crashed;
  time = s.time;
}

-- what becomes known by a note
abbrev pub note_view : Note → NoteView
note_view (note.Test test) = TestIs (test_view test)
note_view (note.Flaky test) = FlakyEnds (test_view test)
note_view (note.Contradiction d) = Contradicts (contradiction_view d)
note_view (note.NotRun n) = IsNotRun (string_bytes n.suite.value) n.not_run n.initial_run_count
note_view (note.Suite suite) = SuiteIs (suite_view suite)

-- the command ended with status 0
abbrev pub ended_well : Option CommandView → Bool
ended_well None = false
ended_well (Some (NotStarted error)) = false
ended_well (Some (BySignal number)) = false
ended_well (Some (WithStatus code)) = code == 0
ended_well (Some (WithError code words)) = false

-- the command could not be started
abbrev pub was_not_started : Option CommandView → Bool
was_not_started None = false
was_not_started (Some (NotStarted error)) = true
was_not_started (Some (BySignal number)) = false
was_not_started (Some (WithStatus code)) = false
was_not_started (Some (WithError code words)) = false

-- a contradiction is counted when it becomes known. Failures of cargo are counted at their lines, and that a file has no event explains nothing
abbrev pub is_new_contradiction : ContradictionView → Bool
is_new_contradiction (EndsEarly suite end) = true
is_new_contradiction (SaysOther suite said passed failed) = true
is_new_contradiction (StrayEnds name how) = true
is_new_contradiction (StraySuiteEnds key failed) = true
is_new_contradiction (StartsOutside n) = true
is_new_contradiction (CargoSays report) = false
is_new_contradiction (IsDamaged text) = true
is_new_contradiction (HasNoEvent file) = false
is_new_contradiction (CommandFails end) = true
is_new_contradiction (OfProgram fault) = true
is_new_contradiction (WasCancelled reason) = true

-- how many tests failed
abbrev pub failed_of : RunStats → ℕ
failed_of stats = stats.finished_count - stats.passed
