-- A run in which lines tell how each test program, and the command that runs them, started and ended.
use Rattle.std.specs.Prelude.{◌==◌, ◌++◌, ◌||◌, ◌&&◌, [], ℕ, ℤ, pos, negsuc, List, Bool, true, false, codes, filter, if◌then◌else◌, is_none, is_some, map, min, Option, Some, None, option_and_then, option_map, string_bytes, unwrap_or}
use Rattle.std.specs.List.{fold, list_any}
use Rattle.std.specs.Option.{option_map_or}
use Rattle.std.specs.Ordering.{int_eq}
use Rattle.std.specs.Str.Lines.{lines}
use Rattle.test_report_events.specs.Event.{AllEndEarly, BySignal, CargoFails, Cancels, CommandOver, CommandStarts, CommandView, DamagedLine, EarlyEndView, EndsUnexplained, EndsUnstarted, EventView, HeadingLine, IsCutOff, NeverEnds, NotStarted, OtherLine, Prints, ProgramContradicts, ProgramFaultView, RunsNoTest, SuiteEnds, SuiteStarts, TestEnds, TestIsSlow, TestStarts, WithError, WithStatus}
use Rattle.test_report_events.specs.Program.{CommandBegins, CommandEnds, CommandIsCancelled, ProgramEnds, ProgramLineView, ProgramStartView, ProgramStarts}
use Rattle.test_report_events.specs.declared.program.ProgramEnd.{ProgramEnd}
use Rattle.test_report_events.specs.declared.program.ProgramEnd.TheVariants.{Signal, Status}
use Rattle.test_report_run.specs.FileEnd.{after_file, file_notes, with_command}
use Rattle.test_report_run.specs.Run.{RunState, after, is_cause, notes_at, run_state}
use Rattle.test_report_run_notes.specs.Note.{CargoSays, CommandFails, ContradictionView, Contradicts, EndsEarly, Fails, FlakyEnds, HasCrashed, HasFailed, HasNoEnd, HasNoEvent, HasTimedOut, IsDamaged, IsFlaky, IsNotRun, IsSkipped, IsStopped, KindView, NoteView, OfProgram, OutcomeView, Passes, SaysOther, StartsOutside, StrayEnds, StraySuiteEnds, SuiteIs, TestIs, WasCancelled}
use Rattle.test_report_programs.specs.Names.{threads_of}
use Rattle.test_report_programs.specs.declared.program.Over.{Over}
use Rattle.test_report_programs.specs.declared.program.Program.{Program}
use Rattle.test_report_programs.specs.declared.run.ProgramRun.{ProgramRun}

-- the program that runs: its name, whether it may run no tests, and what became known since it started: whether one of its suites or tests started,
-- whether there is a failed test or a contradiction, and whether a test crashed or a suite ended early
pub record ProgramView : Type 0 where
  pub name : List ℕ
  pub may_be_empty : Bool
  pub ran : Bool
  pub failed : Bool
  pub broke : Bool

-- how a program ended, and its standard error
pub record OverView : Type 0 where
  pub end : ProgramEnd
  pub stderr : List ℕ

-- what is kept: whether lines of programs count in this file, once it has a line; the program that runs; how it ended, if Ctrl-C or SIGTERM may have ended
-- it and the next line is not read; whether the command ended; and the run
pub record ProgramsState : Type 0 where
  pub counts : Option Bool
  pub program : Option ProgramView
  pub over : Option OverView
  pub is_done : Bool
  pub run : RunState

-- what is kept of a program
abbrev pub program_state : Program → ProgramView
program_state p = record { name = string_bytes p.name; may_be_empty = p.may_be_empty; ran = p.ran; failed = p.failed; broke = p.broke }

-- what is kept of its end
abbrev pub over_view : Over → OverView
over_view o = record { end = o.end; stderr = string_bytes o.stderr }

-- what a run keeps
abbrev pub programs_state : ProgramRun → ProgramsState
programs_state r = record {
  counts = r.counts;
  program = option_map program_state r.program;
  over = option_map over_view r.over;
  is_done = r.is_done;
  run = run_state r.run;
}

-- before the first line
abbrev pub programs_start : RunState → ProgramsState
programs_start run = record { counts = None; program = None; over = None; is_done = false; run = run }

-- what is kept after a line, and what the line makes known
pub record ProgramsStep : Type 0 where
  pub state : ProgramsState
  pub notes : List NoteView

-- what is kept, and these notes
abbrev pub step : ProgramsState → List NoteView → ProgramsStep
step s notes = record { state = s; notes = notes }

-- nothing becomes known
abbrev pub same : ProgramsState → ProgramsStep
same s = step s []

-- the failure is a crash
abbrev pub is_crash_kind : KindView → Bool
is_crash_kind HasFailed = false
is_crash_kind HasTimedOut = false
is_crash_kind HasNoEnd = false
is_crash_kind IsFlaky = false
is_crash_kind (HasCrashed crash) = true

-- a suite ended early
abbrev pub is_early : ContradictionView → Bool
is_early (EndsEarly suite end) = true
is_early (SaysOther suite said passed failed) = false
is_early (StrayEnds name how) = false
is_early (StraySuiteEnds key failed) = false
is_early (StartsOutside n) = false
is_early (CargoSays report) = false
is_early (IsDamaged text) = false
is_early (HasNoEvent file) = false
is_early (CommandFails end) = false
is_early (OfProgram fault) = false
is_early (WasCancelled reason) = false

-- the test crashed
abbrev pub is_crash : OutcomeView → Bool
is_crash (Passes output) = false
is_crash (IsSkipped reason) = false
is_crash IsStopped = false
is_crash (Fails failure) = is_crash_kind failure.kind

-- the note is of a crashed test, or of a suite that ended early
abbrev pub is_break : NoteView → Bool
is_break (TestIs t) = is_crash t.outcome
is_break (FlakyEnds t) = false
is_break (Contradicts d) = is_early d
is_break (IsNotRun suite n of) = false
is_break (SuiteIs s) = false

-- a suite or a test starts
abbrev pub is_start : EventView → Bool
is_start (SuiteStarts key count) = true
is_start (TestStarts name) = true
is_start (SuiteEnds e) = false
is_start (TestEnds e) = false
is_start (TestIsSlow name) = false
is_start OtherLine = false
is_start (HeadingLine name path) = false
is_start (CargoFails f line plain) = false
is_start (Prints line plain) = false
is_start (DamagedLine text) = false
is_start (CommandStarts names) = false
is_start (CommandOver end) = false
is_start (Cancels reason) = false
is_start (AllEndEarly end) = false
is_start (ProgramContradicts fault) = false

-- the program after an event that starts a suite or a test, or does not, and that made this known
abbrev pub with_notes : Bool → List NoteView → ProgramView → ProgramView
with_notes starts notes p = record p {
  ran = p.ran || starts;
  failed = p.failed || list_any is_cause notes;
  broke = p.broke || list_any is_break notes;
}

-- these notes become known, and an event that starts a suite or a test made them known, or another one
abbrev pub kept : Bool → List NoteView → ProgramsStep → ProgramsStep
kept starts notes t =
    step (record (t.state) { program = option_map (with_notes starts notes) t.state.program }) (t.notes ++ notes)

-- the run is another one
abbrev pub with_run : RunState → ProgramsStep → ProgramsStep
with_run run t = record t { state = record (t.state) { run = run } }

-- an event of the run
unfoldable pub told : ProgramsStep → EventView → ProgramsStep
told t e = kept (is_start e) (notes_at t.state.run e) (with_run (after t.state.run e) t)

-- events of the run, one after the other
abbrev pub all_told : ProgramsStep → List EventView → ProgramsStep
all_told t events = fold told t events

-- an event of the run, if there is one
abbrev pub told_if : ProgramsStep → Option EventView → ProgramsStep
told_if t None = t
told_if t (Some e) = told t e

-- nothing is known of how all that is open ended
abbrev pub unknown_end : EarlyEndView
unknown_end = record { end = None; overflowed = []; panicked = [] }

-- how all that is open ends with its program
abbrev pub known_end : OverView → EarlyEndView
known_end o = record {
  end = Some o.end;
  overflowed = threads_of (codes " has overflowed") o.stderr;
  panicked = threads_of (codes " panicked") o.stderr;
}

-- a line of standard error is a print
abbrev pub printed : List ℕ → EventView
printed line = Prints line line

-- no program runs any more
abbrev pub without_program : ProgramsStep → ProgramsStep
without_program t = record t { state = record (t.state) { program = None } }

-- what is known of the program says why it ended so: status 101 by any failure or contradiction, another end by a crash or an early end
abbrev pub explains : ProgramView → ProgramEnd → Bool
explains p (Status code) = if int_eq code (pos 101) then p.failed else p.broke
explains p (Signal number) = p.broke

-- it ended with status 0
abbrev pub is_zero : ProgramEnd → Bool
is_zero (Status code) = int_eq code (pos 0)
is_zero (Signal number) = false

-- what is wrong with the end of a program: one that ended with status 0 has to have run tests, and another end needs an explanation
abbrev pub fault_of : ProgramEnd → ProgramView → Option ProgramFaultView
fault_of end p =
    if is_zero end then (if p.ran || p.may_be_empty then None else Some (RunsNoTest p.name))
    else (if explains p end then None else Some (EndsUnexplained p.name end))

-- what is wrong with a program of which no line says how it ended: that, unless something else is
abbrev pub lost_fault : ProgramView → Option ProgramFaultView
lost_fault p = if p.failed then None else Some (NeverEnds p.name)

-- the fault of the program that runs, if there is one
abbrev pub judged : (ProgramView → Option ProgramFaultView) → ProgramsStep → ProgramsStep
judged rule t = told_if t (option_map ProgramContradicts (option_and_then rule t.state.program))

-- the program is over: its standard error is printed, all that is open ends early, and then its end is judged
abbrev pub program_over : OverView → ProgramsStep → ProgramsStep
program_over o t = without_program (judged (fault_of o.end) (told (all_told t (map printed (lines o.stderr))) (AllEndEarly (known_end o))))

-- no line says how the program ended that runs, if one does
abbrev pub program_lost : ProgramsStep → ProgramsStep
program_lost t = if is_some t.state.program then without_program (judged lost_fault (told t (AllEndEarly unknown_end))) else t

-- a program that had an end which was put off is over now
abbrev pub settled : ProgramsStep → ProgramsStep
settled t = option_map_or (λ o. program_over o (record t { state = record (t.state) { over = None } })) t.state.over t

-- Ctrl-C or SIGTERM may have ended the program
abbrev pub may_be_cancelled : ProgramEnd → Bool
may_be_cancelled (Signal number) = number == 2 || number == 15
may_be_cancelled (Status code) = int_eq code (pos 130) || int_eq code (pos 143)

-- a program ended so. Whether the run is cancelled may be in the next line: then the end is put off
abbrev pub ended : OverView → ProgramsStep → ProgramsStep
ended o t =
    if is_none t.state.program then (if is_zero o.end then t else told t (ProgramContradicts (EndsUnstarted o.end)))
    else if may_be_cancelled o.end then record t { state = record (t.state) { over = Some o } }
    else program_over o t

-- the program when it starts
abbrev pub new_program : ProgramStartView → ProgramView
new_program p = record { name = p.name; may_be_empty = p.own_harness || p.lists; ran = false; failed = false; broke = false }

-- a program starts
abbrev pub started : ProgramStartView → ProgramsStep → ProgramsStep
started p t =
    let headed = told (program_lost t) (HeadingLine p.name p.path) in
    record headed { state = record (headed.state) { program = Some (new_program p) } }

-- a number, or the greatest one of 32 bits if it does not fit
abbrev pub in_32_bits : ℤ → ℕ
in_32_bits (pos n) = min n 4294967295
in_32_bits (negsuc n) = 4294967295

-- the command ended with this status, and said this
abbrev pub with_words : ℕ → Option (List ℕ) → CommandView
with_words code None = WithStatus code
with_words code (Some words) = if code == 0 then WithStatus code else WithError code words

-- how the command ended
abbrev pub command_of : Option ProgramEnd → Option (List ℕ) → CommandView
command_of None error = NotStarted (unwrap_or error [])
command_of (Some (Signal number)) error = BySignal (in_32_bits (pos number))
command_of (Some (Status code)) error = with_words (in_32_bits code) error

-- the command ended
abbrev pub done : ProgramsStep → ProgramsStep
done t = record t { state = record (t.state) { is_done = true } }

-- the command ended before, and its end with status 0 says nothing
abbrev pub ends_again : ProgramsState → Option ProgramEnd → Bool
ends_again s end = s.is_done && option_map_or is_zero end false

-- the command ended so. Of a later end than the first one only a failure counts
abbrev pub command_over : Option ProgramEnd → Option (List ℕ) → ProgramsStep → ProgramsStep
command_over end error t = if ends_again t.state end then t else done (told t (CommandOver (command_of end error)))

-- a line of a program or of the command, where such lines count
abbrev pub program_told : ProgramLineView → ProgramsStep → ProgramsStep
program_told (ProgramStarts p) t = started p (settled t)
program_told (ProgramEnds None stderr) t = program_lost (settled t)
program_told (ProgramEnds (Some end) stderr) t = ended (record { end = end; stderr = stderr }) (settled t)
program_told CommandBegins t = settled t
program_told (CommandIsCancelled reason) t = settled (told_if t (option_map Cancels reason))
program_told (CommandEnds end error reason) t =
    command_over end error (program_lost (settled (told_if t (option_map Cancels reason))))

-- the event counts where lines of programs count. Headings and failures of cargo are prints there, and prints say nothing
abbrev pub is_counted : EventView → Bool
is_counted (SuiteStarts key count) = true
is_counted (SuiteEnds e) = true
is_counted (TestStarts name) = true
is_counted (TestEnds e) = true
is_counted (TestIsSlow name) = true
is_counted OtherLine = true
is_counted (DamagedLine text) = true
is_counted (HeadingLine name path) = false
is_counted (CargoFails f line plain) = false
is_counted (Prints line plain) = false
is_counted (CommandStarts names) = false
is_counted (CommandOver end) = false
is_counted (Cancels reason) = false
is_counted (AllEndEarly end) = false
is_counted (ProgramContradicts fault) = false

-- those of the events of a line that are told
abbrev pub events_taken : Bool → List EventView → List EventView
events_taken counts events = if counts then filter is_counted events else events

-- before a line. Lines of programs count in a file whose first line is one
abbrev pub at_line : ProgramsState → Option ProgramLineView → ProgramsState
at_line s line = record s { counts = Some (unwrap_or s.counts (is_some line)) }

-- an end that was put off is settled by a line that is not of a program or of the command
abbrev pub settled_if : Bool → ProgramsStep → ProgramsStep
settled_if due t = if due then settled t else t

-- a line of a program or of the command, if it is one and such lines count
abbrev pub told_program : Bool → Option ProgramLineView → ProgramsStep → ProgramsStep
told_program counts line t = if counts then option_map_or (λ l. program_told l t) line t else t

-- a line with these events
abbrev pub line_told : ProgramsState → List EventView → Option ProgramLineView → ProgramsStep
line_told s events line =
    let counts = unwrap_or s.counts (is_some line) in
    let ready = settled_if (counts && is_none line) (same (at_line s line)) in
    told_program counts line (all_told ready (events_taken counts events))

-- before the end of a file. Where lines of programs count, the last program is over, and a line has to say how the command ended
abbrev pub closed : ProgramsState → ProgramsStep
closed s =
    if unwrap_or s.counts false then
    (let t = program_lost (settled (same s)) in if t.state.is_done then t else told t (ProgramContradicts IsCutOff))
    else same s

-- the end of a file, whose command ended so, if it is known
abbrev pub file_told : ProgramsState → Option CommandView → ProgramsStep
file_told s command =
    let t = closed s in
    let run = with_command t.state.run command in
    record { state = programs_start (after_file run); notes = t.notes ++ file_notes run }
