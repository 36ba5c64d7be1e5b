-- What a line of a test run says.
use Rattle.std.specs.Prelude.{ℕ, List, ◌++◌, codes, Bool, Option, Some, None, option_map}
use Rattle.std.specs.Fmt.{decimal}
use Rattle.run_events_results.specs.declared.results.CancelReason.{CancelReason}
use Rattle.test_report_events.specs.declared.event.CargoFailure.{CargoFailure}
use Rattle.test_report_events.specs.declared.event.Event.{Event}
use Rattle.test_report_events.specs.declared.event.Event.TheVariants as event
use Rattle.test_report_events.specs.declared.event.SuiteEnd.{SuiteEnd}
use Rattle.test_report_events.specs.declared.event.SuiteKey.{SuiteKey}
use Rattle.test_report_events.specs.declared.event.TestDetails.{TestDetails}
use Rattle.test_report_events.specs.declared.event.TestResult.{TestResult}
use Rattle.test_report_events.specs.declared.program.ProgramEnd.{ProgramEnd}

-- the last line of a suite
pub record SuiteEndView : Type 0 where
  -- the key, as text
  pub key : Option (List ℕ)
  -- true if the suite failed
  pub failed_verdict : Bool
  -- the numbers of tests that passed, failed and were ignored, and of benchmarks that were measured
  pub passed : Option ℕ
  pub failed : Option ℕ
  pub ignored : Option ℕ
  pub measured : Option ℕ
  -- the time, in microseconds
  pub time : Option ℕ

-- the end of a test
pub record TestEndView : Type 0 where
  -- the name, as it is written
  pub name : List ℕ
  -- how the test ended
  pub result : TestResult
  -- its output, the message of the harness, and the reason for a failure
  pub stdout : Option (List ℕ)
  pub message : Option (List ℕ)
  pub reason : Option (List ℕ)
  -- the time, in microseconds
  pub time : Option ℕ

-- how a command ended
pub data CommandView : Type 0 where
  -- the command could not be started, and the system says why
  NotStarted : List ℕ → CommandView
  -- a signal with this number ended it
  BySignal : ℕ → CommandView
  -- it ended with this exit status
  WithStatus : ℕ → CommandView
  -- it ended with this exit status, which is not 0, and said why in these words
  WithError : ℕ → List ℕ → CommandView

-- what is known when all that is open ends early: how its program ended, if somebody knows, and the names of the threads that standard error says
-- overflowed their stack or panicked
pub record EarlyEndView : Type 0 where
  pub end : Option ProgramEnd
  pub overflowed : List (List ℕ)
  pub panicked : List (List ℕ)

-- what is wrong with the lines of programs
pub data ProgramFaultView : Type 0 where
  -- the program with this name ended so, and nothing says why
  EndsUnexplained : List ℕ → ProgramEnd → ProgramFaultView
  -- the program with this name ended with status 0, and ran no test
  RunsNoTest : List ℕ → ProgramFaultView
  -- no line says how the program with this name ended
  NeverEnds : List ℕ → ProgramFaultView
  -- a program ended so while none ran
  EndsUnstarted : ProgramEnd → ProgramFaultView
  -- no line says how the command ended
  IsCutOff : ProgramFaultView

-- the name of each suite, by the path of its binary
abbrev pub SuiteNames : Type 0
SuiteNames = List (List ℕ × List ℕ)

-- what a line says, or what is known of the run from elsewhere. No line says the last five
pub data EventView : Type 0 where
  -- a suite with this key and number of tests starts
  SuiteStarts : Option (List ℕ) → Option ℕ → EventView
  -- a suite ends
  SuiteEnds : SuiteEndView → EventView
  -- a test with this name starts
  TestStarts : List ℕ → EventView
  -- a test ends
  TestEnds : TestEndView → EventView
  -- a test with this name is slow
  TestIsSlow : List ℕ → EventView
  -- another line of a test harness
  OtherLine : EventView
  -- a heading, with the name of the suites that follow it, and the path of their binary
  HeadingLine : List ℕ → Option (List ℕ) → EventView
  -- something failed: what, the line, and the plain text of the line
  CargoFails : CargoFailure → List ℕ → List ℕ → EventView
  -- a print: the line, and the plain text of the line
  Prints : List ℕ → List ℕ → EventView
  -- a damaged line says that a test or a suite failed: its text
  DamagedLine : List ℕ → EventView
  -- the command starts whose output the next lines are. The suites of the binaries with these paths have these names
  CommandStarts : SuiteNames → EventView
  -- the command has ended
  CommandOver : CommandView → EventView
  -- the run is cancelled for this reason
  Cancels : CancelReason → EventView
  -- all open suites end early, and the tests outside of a suite
  AllEndEarly : EarlyEndView → EventView
  -- something is wrong with the lines of programs
  ProgramContradicts : ProgramFaultView → EventView

-- the text of a key: `CRATE::BINARY`, and `@stress-N` if there is an index
abbrev pub key_text : List ℕ → List ℕ → Option ℕ → List ℕ
key_text crate_name binary None = crate_name ++ (codes "::" ++ binary)
key_text crate_name binary (Some index) = crate_name ++ (codes "::" ++ (binary ++ (codes "@stress-" ++ decimal index)))

-- the text of this key
abbrev pub text_of_key : SuiteKey → List ℕ
text_of_key k = key_text k.«package».now k.binary.now k.stress_index

-- what the last line of a suite says
abbrev pub suite_end_view : SuiteEnd → SuiteEndView
suite_end_view e = record {
  key = option_map text_of_key e.key;
  failed_verdict = e.failed_verdict;
  passed = e.passed;
  failed = e.failed;
  ignored = e.ignored;
  measured = e.measured;
  time = e.time;
}

-- what the end of a test says that has this name, this result and these details
abbrev pub test_end_view : List ℕ → TestResult → TestDetails → TestEndView
test_end_view name outcome details = record {
  name = name;
  result = outcome;
  stdout = option_map (λ text. text.now) details.stdout;
  message = option_map (λ text. text.now) details.message;
  reason = option_map (λ text. text.now) details.reason;
  time = details.time;
}

-- what an event says
abbrev pub event_view : Event → EventView
event_view (event.SuiteStarted key count) = SuiteStarts (option_map text_of_key key) count
event_view (event.SuiteEnded e) = SuiteEnds (suite_end_view e)
event_view (event.TestStarted name) = TestStarts name.now
event_view (event.TestEnded name outcome details) = TestEnds (test_end_view name.now outcome details)
event_view (event.TestSlow name) = TestIsSlow name.now
event_view event.Other = OtherLine
event_view (event.Heading suite path) = HeadingLine suite.now (option_map (λ path. path.now) path)
event_view (event.CargoFailed failure line plain) = CargoFails failure line.now plain.now
event_view (event.Print line plain) = Prints line.now plain.now
event_view (event.Damaged text) = DamagedLine text.now
