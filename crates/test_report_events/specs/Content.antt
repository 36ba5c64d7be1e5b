-- What is kept of a line that was read.
use Rattle.std.specs.Prelude.{◌++◌, ◌∷◌, ℕ, List, Option, Some, None, codes, option_map, option_to_list}
use Rattle.std.specs.String.{string_bytes}
use Rattle.test_report_events.specs.Event.{CargoFails, DamagedLine, EventView, HeadingLine, OtherLine, Prints, SuiteEndView, SuiteEnds, SuiteStarts, TestEndView, TestEnds, TestIsSlow, TestStarts, key_text}
use Rattle.test_report_events.specs.Program.{ProgramLineView, program_view}
use Rattle.test_report_events.specs.declared.cargo.CargoLine.{CargoLine}
use Rattle.test_report_events.specs.declared.cargo.CargoLine.TheVariants as cargo
use Rattle.test_report_events.specs.declared.cargo.Heading.{Heading}
use Rattle.test_report_events.specs.declared.cargo.Heading.TheVariants as heading
use Rattle.test_report_events.specs.declared.content.Content.{Content}
use Rattle.test_report_events.specs.declared.content.Content.TheVariants as content
use Rattle.test_report_events.specs.declared.content.KeyTexts.{KeyTexts}
use Rattle.test_report_events.specs.declared.content.LastLine.{LastLine}
use Rattle.test_report_events.specs.declared.content.TestEnd.{TestEnd}
use Rattle.test_report_events.specs.declared.line.Line.{Line}

-- the key of a suite that is kept, as text
abbrev pub key_of : KeyTexts → List ℕ
key_of k = key_text (string_bytes k.«package») (string_bytes k.binary) k.stress_index

-- the last line of a suite that is kept
abbrev pub suite_end_of : LastLine → SuiteEndView
suite_end_of e = record {
  key = option_map key_of e.key;
  failed_verdict = e.failed_verdict;
  passed = e.passed;
  failed = e.failed;
  ignored = e.ignored;
  measured = e.measured;
  time = e.time;
}

-- the end of a test that is kept
abbrev pub end_of : TestEnd → TestEndView
end_of e = record {
  name = string_bytes e.name;
  result = e.result;
  stdout = option_map string_bytes e.stdout;
  message = option_map string_bytes e.message;
  reason = option_map string_bytes e.reason;
  time = e.time;
}

-- the suites that a heading announces
abbrev pub suite_of : Heading → List ℕ
suite_of (heading.DocTests crate_name) = crate_name.now ++ codes " (doc tests)"
suite_of (heading.Target binary target path) = binary.now ++ (codes " (" ++ (target.now ++ codes ")"))
suite_of (heading.Command binary path) = binary.now

-- the path of the binary of a heading
abbrev pub path_of : Heading → Option (List ℕ)
path_of (heading.DocTests crate_name) = None
path_of (heading.Target binary target path) = Some path.now
path_of (heading.Command binary path) = Some path.now

-- the event of a line of cargo with this text, which people see as `shown`
abbrev pub cargo_event : List ℕ → List ℕ → CargoLine → EventView
cargo_event shown text (cargo.Heading found) = HeadingLine (suite_of found) (path_of found)
cargo_event shown text (cargo.Failure failure) = CargoFails failure shown text

-- the event of what a line is
abbrev pub content_event : Content → EventView
content_event (content.SuiteStarted key count) = SuiteStarts (option_map key_of key) count
content_event (content.SuiteEnded end) = SuiteEnds (suite_end_of end)
content_event (content.TestStarted name) = TestStarts (string_bytes name)
content_event (content.TestEnded end) = TestEnds (end_of end)
content_event (content.TestSlow name) = TestIsSlow (string_bytes name)
content_event content.Other = OtherLine
content_event (content.Heading suite path) = HeadingLine (string_bytes suite) (option_map string_bytes path)
content_event (content.Failure failure text plain) = CargoFails failure (string_bytes text) (string_bytes plain)
content_event (content.Print text plain) = Prints (string_bytes text) (string_bytes plain)
content_event (content.Damaged text) = DamagedLine (string_bytes text)

-- the print that comes before the event of a line, if there is one
abbrev pub before_of : Line → Option EventView
before_of line = option_map content_event line.before

-- the event of a line that was read
abbrev pub event_of : Line → EventView
event_of line = content_event line.content

-- the event that the line, or a part of it, is damaged and says a failure
abbrev pub damage_of : Line → Option EventView
damage_of line = option_map content_event line.damage

-- the events of a line that was read, in their order
abbrev pub events_of : Line → List EventView
events_of line = option_to_list (before_of line) ++ event_of line ∷ option_to_list (damage_of line)

-- the number of bytes at the start of a line that was read that are no event
abbrev pub rest_of : Line → Option ℕ
rest_of line = line.rest

-- what a line that was read says of a program or of the command
abbrev pub program_of : Line → Option ProgramLineView
program_of line = option_map program_view line.program
