-- Laws of a run in which lines tell of each test program, and of the command that runs them.
use Rattle.std.specs.Prelude.{◌≡◌, ◌<◌, ◌++◌, ◌&&◌, ◌||◌, ◌≢◌, ◌⊎◌, ◌∷◌, [], ℕ, Bool, IfSome, List, None, Option, Some, false, true, unwrap_or}
use Rattle.std.specs.List.{count_by, sum_by}
use Rattle.run_events_stats.specs.declared.outcome.run_outcome.RunOutcome.TheVariants as outcome
use Rattle.test_report_run.specs.FileEnd.{end_of}
use Rattle.test_report_events.specs.Event.{CommandView, EventView}
use Rattle.test_report_events.specs.Program.{ProgramEnds, ProgramLineView}
use Rattle.test_report_events.specs.declared.program.ProgramEnd.{ProgramEnd}
use Rattle.test_report_programs.specs.Lines.{OverView, ProgramView, ProgramsState, ProgramsStep, closed, ended, file_told, is_zero, line_told, program_over, programs_start, same, step}
use Rattle.test_report_run.specs.Run.{RunSettings, RunState, is_cause, run_start}
use Rattle.test_report_run_notes.specs.Note.{NoteView}
use Rattle.test_report_laws.specs.Run.{failed_lines_in, failed_lines_of}
use Rattle.test_report_laws.specs.Whole.{notes_of, notes_of_file, notes_of_files, run_after, run_after_file, run_after_files}

-- there are events by which one run becomes another, and which make these notes known. As many of them say that a test failed
pub record AreEvents (before after : RunState) (notes : List NoteView) (failed : ℕ) : Type 0 where
  pub events : List EventView
  pub run_is : after ≡ run_after before events
  pub notes_are : notes ≡ notes_of before events
  pub failed_lines : failed_lines_in events ≡ failed

-- A line of a run with programs is events of a run. As many of them say that a test failed as of the events in the line.
abbrev pub LinesAreEvents : Type 0
LinesAreEvents = (s : ProgramsState) → (events : List EventView) → (line : Option ProgramLineView)
    → let t = line_told s events line in AreEvents s.run t.state.run t.notes (failed_lines_in events)

-- What happens before the end of a file is events of a run, too. None of them says that a test failed.
abbrev pub ClosesAreEvents : Type 0
ClosesAreEvents = (s : ProgramsState) → let t = closed s in AreEvents s.run t.state.run t.notes 0

-- there are last events of a file by which one run becomes another, and which make these notes known with the end of the file. As many of them say
-- that a test failed
pub record EndsFile (before after : RunState) (notes : List NoteView) (failed : ℕ) : Type 0 where
  pub events : List EventView
  pub run_is : after ≡ run_after_file before events
  pub notes_are : notes ≡ notes_of_file before events
  pub failed_lines : failed_lines_in events ≡ failed

-- The end of a file of a run with programs is last events of the file, and its end. None of them says that a test failed.
abbrev pub FileEndsAreEvents : Type 0
FileEndsAreEvents = (s : ProgramsState) → (command : Option CommandView) → let t = file_told s command in EndsFile s.run t.state.run t.notes 0

-- What a program that failed shows.

-- the program did well: it ended with status 0, and ran a suite or a test, or may run none
abbrev pub ended_well : ProgramEnd → ProgramView → Bool
ended_well end p = is_zero end && (p.ran || p.may_be_empty)

-- how many of the notes are of a failed test, or are contradictions
abbrev pub causes_in : List NoteView → ℕ
causes_in notes = count_by is_cause notes

-- what is kept of the program that runs is known: if a failed test, a contradiction or an early end became known since it started, one of the notes is a cause
abbrev pub IsKnown : List NoteView → Option ProgramView → Type 0
IsKnown notes program = IfSome program (λ p. (p.failed || p.broke) ≡ true → 0 < causes_in notes)

-- A line keeps it known, with what it makes known.
abbrev pub LinesKeepKnown : Type 0
LinesKeepKnown = (known : List NoteView) → (s : ProgramsState) → (events : List EventView) → (line : Option ProgramLineView) → IsKnown known s.program
    → let t = line_told s events line in IsKnown (known ++ t.notes) t.state.program

-- If the program that runs is over and did not do well, a test failed or a contradiction became known.
abbrev pub FailedProgramShows : Type 0
FailedProgramShows = (t : ProgramsStep) → (o : OverView) → (p : ProgramView) → IsKnown t.notes t.state.program → t.state.program ≡ Some p
    → ended_well o.end p ≡ false → 0 < causes_in (program_over o t).notes

-- If a program ends that did not start, with another status than 0, a contradiction becomes known.
abbrev pub UnstartedProgramShows : Type 0
UnstartedProgramShows = (t : ProgramsStep) → (o : OverView) → t.state.program ≡ None → is_zero o.end ≡ false → 0 < causes_in (ended o t).notes

-- A whole file.

-- a line of a file: its events, and what it says of a program or of the command
pub record LineOf : Type 0 where
  pub events : List EventView
  pub program : Option ProgramLineView

-- what is kept after lines, and what they make known
abbrev pub lines_told : ProgramsState → List LineOf → ProgramsStep
lines_told s [] = same s
lines_told s (l ∷ lines) =
    let t = line_told s l.events l.program in
    let rest = lines_told t.state lines in
    step rest.state (t.notes ++ rest.notes)

-- the same with the end of the file, whose command ended so, if it is known
abbrev pub whole_file_told : ProgramsState → List LineOf → Option CommandView → ProgramsStep
whole_file_told s lines command =
    let t = lines_told s lines in
    let end = file_told t.state command in
    step end.state (t.notes ++ end.notes)

-- a line that says that a program ended so, with this standard error
abbrev pub end_line : ProgramEnd → List ℕ → LineOf
end_line end stderr = record { events = []; program = Some (ProgramEnds (Some end) stderr) }

-- the end of a program is bad: it is not status 0, or the program that runs ran no suite and no test, and may not run none
abbrev pub IsBad : ProgramsState → ProgramEnd → Type 0
IsBad s end =
    (is_zero end ≡ false)
    ⊎ ((p : ProgramView) × (s.program ≡ Some p) × (s.over ≡ None) × ((p.ran || p.may_be_empty) ≡ false))

-- If a line of a file says that a program ended badly, where such lines count, the file makes a failed test or a contradiction known.
abbrev pub FailedEndShows : Type 0
FailedEndShows = (run : RunState) → (first rest : List LineOf) → (end : ProgramEnd) → (stderr : List ℕ) → (command : Option CommandView)
    → let s = (lines_told (programs_start run) first).state in unwrap_or s.counts true ≡ true → IsBad s end
    → 0 < causes_in (whole_file_told (programs_start run) (first ++ end_line end stderr ∷ rest) command).notes

-- A whole run.

-- a file: its lines, and how its command ended, if it is known
pub record FileOf : Type 0 where
  pub lines : List LineOf
  pub command : Option CommandView

-- what is kept after files, and what they make known
abbrev pub files_told : ProgramsState → List FileOf → ProgramsStep
files_told s [] = same s
files_told s (f ∷ files) =
    let t = whole_file_told s f.lines f.command in
    let rest = files_told t.state files in
    step rest.state (t.notes ++ rest.notes)

-- how many events in the lines say that a test failed
abbrev pub failed_in_lines : List LineOf → ℕ
failed_in_lines lines = sum_by (λ l. failed_lines_in l.events) lines

-- there are files of events by which one run becomes another, and which make these notes known. As many of the events say that a test failed
pub record AreFiles (before after : RunState) (notes : List NoteView) (failed : ℕ) : Type 0 where
  pub files : List (List EventView)
  pub run_is : after ≡ run_after_files before files
  pub notes_are : notes ≡ notes_of_files before files
  pub failed_lines : failed_lines_of files ≡ failed

-- A whole run with programs is a run of such files. As many of their events say that a test failed as of those in the lines.
abbrev pub RunsAreFiles : Type 0
RunsAreFiles = (s : ProgramsState) → (files : List FileOf)
    → let t = files_told s files in AreFiles s.run t.state.run t.notes (sum_by (λ f. failed_in_lines f.lines) files)

-- a whole run with programs
abbrev pub whole_run_told : RunSettings → List FileOf → ProgramsStep
whole_run_told settings files = files_told (programs_start (run_start settings)) files

-- If a line of a run says that a program ended badly, where such lines count, the outcome is neither `Success` nor `NoTestsRun`.
abbrev pub FailedEndFails : Type 0
FailedEndFails = (settings : RunSettings) → (before after : List FileOf) → (first rest : List LineOf) → (end : ProgramEnd) → (stderr : List ℕ)
    → (command : Option CommandView)
    → let s = (lines_told (whole_run_told settings before).state first).state in unwrap_or s.counts true ≡ true → IsBad s end
    → let file : FileOf = record { lines = first ++ end_line end stderr ∷ rest; command = command } in
    let t = whole_run_told settings (before ++ file ∷ after) in
    ((end_of t.state.run).outcome ≢ outcome.Success) × ((end_of t.state.run).outcome ≢ outcome.NoTestsRun)
