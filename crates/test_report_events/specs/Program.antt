-- What a line says of a test program, or of the command that runs all of them.
use Rattle.std.specs.Prelude.{◌≡◌, ◌++◌, [], ℕ, List, codes, Bool, false, not, MatchOption, Option, Some, None, option_and_then, option_map, string_bytes, if◌then◌else◌}
use Rattle.std.specs.Option.{option_map_or, option_or, unwrap_or}
use Rattle.std.specs.Str.{bytes_eq}
use Rattle.run_events_results.specs.declared.results.CancelReason.{CancelReason}
use Rattle.run_events_results.specs.declared.results.CancelReason.TheVariants as cancel
use Rattle.serde_json.specs.Data.{Data}
use Rattle.serde_json.specs.Find.{as_bool, as_i64, as_number, get}
use Rattle.test_report_events.specs.Cargo.{file_name}
use Rattle.test_report_events.specs.Line.{Holds}
use Rattle.test_report_events.specs.Said.{is_text, number_of, text_of}
use Rattle.test_report_events.specs.declared.program.ProgramEnd.{ProgramEnd}
use Rattle.test_report_events.specs.declared.program.ProgramEnd.TheVariants as program
use Rattle.test_report_events.specs.declared.program.ProgramLine.{ProgramLine}
use Rattle.test_report_events.specs.declared.program.ProgramLine.TheVariants as line
use Rattle.test_report_events.specs.declared.program.ProgramStart.{ProgramStart}

-- a program starts: the name of its suites, its path, whether it has its own harness, and whether its harness lists tests
pub record ProgramStartView : Type 0 where
  pub name : List ℕ
  pub path : Option (List ℕ)
  pub own_harness : Bool
  pub lists : Bool

-- what a line says
pub data ProgramLineView : Type 0 where
  ProgramStarts : ProgramStartView → ProgramLineView
  -- a program ended so, if the line says how, after this standard error
  ProgramEnds : Option ProgramEnd → List ℕ → ProgramLineView
  CommandBegins : ProgramLineView
  -- the run is cancelled here, for this reason if the line has one
  CommandIsCancelled : Option CancelReason → ProgramLineView
  -- the command ended so, or could not be started; with the error that it reported, and why the run was cancelled
  CommandEnds : Option ProgramEnd → Option (List ℕ) → Option CancelReason → ProgramLineView

-- a program starts, as it is kept
abbrev pub start_view : ProgramStart → ProgramStartView
start_view s = record { name = string_bytes s.name; path = option_map string_bytes s.path; own_harness = s.own_harness; lists = s.lists }

-- what is kept of a line
abbrev pub program_view : ProgramLine → ProgramLineView
program_view (line.ProgramStarted start) = ProgramStarts (start_view start)
program_view (line.ProgramEnded end stderr) = ProgramEnds end (string_bytes stderr)
program_view line.CommandStarted = CommandBegins
program_view (line.CommandCancelled reason) = CommandIsCancelled reason
program_view (line.CommandEnded end error reason) = CommandEnds end (option_map string_bytes error) reason

-- the documentation tests of a package
abbrev pub doc_tests : List ℕ → List ℕ
doc_tests crate_name = crate_name ++ codes " (doc tests)"

-- the target of a program, or the file name of its path
abbrev pub target_of : Data → Option (List ℕ)
target_of d = option_or (text_of (codes "target") d) (option_map file_name (text_of (codes "path") d))

-- the name of a program's suites: the one that the line has; or else that of the documentation tests of a package; or else its target
abbrev pub name_of : Data → Option (List ℕ)
name_of d =
    option_or (text_of (codes "name") d)
    (if is_text (text_of (codes "kind") d) (codes "doc") then option_map doc_tests (text_of (codes "package") d)
    else target_of d)

-- the truth value of a member
abbrev pub truth_of : List ℕ → Data → Option Bool
truth_of key d = option_and_then as_bool (get key d)

-- the program that starts
abbrev pub start_of : Data → ProgramStartView
start_of d = record {
  name = unwrap_or (name_of d) (codes "program");
  path = text_of (codes "path") d;
  own_harness = option_map_or not (truth_of (codes "harness") d) false;
  lists = unwrap_or (truth_of (codes "list") d) false;
}

-- how something ended: with a status, or else by a signal
abbrev pub end_of : Data → Option ProgramEnd
end_of d =
    option_or (option_map program.Status (option_and_then as_i64 (option_and_then as_number (get (codes "status") d))))
    (option_map program.Signal (number_of (codes "signal") d))

-- why a run is cancelled, by a word
abbrev pub reason_of : List ℕ → Option CancelReason
reason_of word =
    if bytes_eq word (codes "Interrupt") then Some cancel.Interrupt
    else if bytes_eq word (codes "Signal") then Some cancel.Signal
    else None

-- why the run is cancelled, by the object
abbrev pub cancelled_of : Data → Option CancelReason
cancelled_of d = option_and_then reason_of (text_of (codes "cancelled") d)

-- what an object of the type `program` says, of this event
abbrev pub program_said : Data → List ℕ → Option ProgramLineView
program_said d event =
    if bytes_eq event (codes "started") then Some (ProgramStarts (start_of d))
    else if bytes_eq event (codes "ended") then Some (ProgramEnds (end_of d) (unwrap_or (text_of (codes "stderr") d) []))
    else None

-- what an object of the type `command` says, of this event
abbrev pub command_said : Data → List ℕ → Option ProgramLineView
command_said d event =
    if bytes_eq event (codes "started") then Some CommandBegins
    else if bytes_eq event (codes "cancelled") then Some (CommandIsCancelled (cancelled_of d))
    else if bytes_eq event (codes "ended") then Some (CommandEnds (end_of d) (text_of (codes "error") d) (cancelled_of d))
    else None

-- what an object of this type says
abbrev pub said_by : Data → List ℕ → Option ProgramLineView
said_by d word =
    if bytes_eq word (codes "program") then option_and_then (program_said d) (text_of (codes "event") d)
    else if bytes_eq word (codes "command") then option_and_then (command_said d) (text_of (codes "event") d)
    else None

-- what an object says of a program or of the command
abbrev pub object_tells : Data → Option ProgramLineView
object_tells d = option_and_then (said_by d) (text_of (codes "type") d)

-- what the line says of a program or of the command, if it does
abbrev pub TellsProgram : List ℕ → Option ProgramLineView → Type 0
TellsProgram bytes found = MatchOption found
    ((at : ℕ) (d : Data) → Holds bytes at d → object_tells d ≡ None)
    (λ p. (at : ℕ) × (d : Data) × Holds bytes at d × (object_tells d ≡ Some p))
