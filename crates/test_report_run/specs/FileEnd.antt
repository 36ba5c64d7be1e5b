-- The end of a file, and of a run.
use Rattle.std.specs.Prelude.{◌-◌, ◌++◌, ◌==◌, ◌∷◌, ◌||◌, ◌&&◌, [], ℕ, List, Bool, true, false, length, map, nat_lt, not, if◌then◌else◌, drop, slice_get, Option, None, Some}
use Rattle.std.specs.Option.{option_map_or}
use Rattle.test_report_events.specs.Event.{BySignal, CommandOver, CommandView, NotStarted, WithError, WithStatus}
use Rattle.test_report_run_notes.specs.Note.{CargoSays, CargoView, CommandFails, Contradicts, HasNoEvent, NoteView, ended_well, was_not_started}
use Rattle.test_report_run_notes.specs.declared.note.RunEnd.{RunEnd}
use Rattle.test_report_run.specs.Others.{no_others}
use Rattle.test_report_run.specs.Over.{nothing_known}
use Rattle.test_report_run.specs.Totals.{ending}
use Rattle.test_report_run.specs.Run.{RunState, Step, step, after, all_ended_early, settled, learned, unless_cancelled}

-- a failure of cargo when the command has ended. It does not lack events if there was one, before the failure or after it
abbrev pub at_end : Bool → CargoView → CargoView
at_end has_event report = record report { lacks_events = report.lacks_events && not has_event }

-- the failures of cargo that wait for the end of the command
abbrev pub held_reports : RunState → List CargoView
held_reports r = map (at_end r.has_event) r.held

-- they become known, unless the command ended with status 0: then they were prints
abbrev pub held_told : RunState → Step
held_told r =
    if ended_well r.command then step (record r { held = []; causes = r.causes - length r.held }) []
    else step (record r { held = [] }) (map (λ report. Contradicts (CargoSays report)) (held_reports r))

-- the name of the file, if the files of the run have names
abbrev pub file_name : RunState → Option (List ℕ)
file_name r = slice_get r.file_names 0

-- there is a contradiction if the file has no event, no failed test and no other contradiction, unless its command ended with status 0 or was not started
abbrev pub no_event_notes : RunState → List NoteView
no_event_notes r =
    if not r.has_event && (not (nat_lt r.causes_at_file r.causes) && not (ended_well r.command || was_not_started r.command))
    then Contradicts (HasNoEvent (file_name r)) ∷ [] else []

-- the failures of cargo that are not known yet become known, or were prints
abbrev pub reports_told : RunState → Step
reports_told r = let last = settled r false in let held = held_told last.run in step held.run (last.notes ++ held.notes)

-- the end of a file, without the note on how its command ended
abbrev pub file_end : RunState → Step
file_end r =
    let reports = reports_told r in
    let suites = all_ended_early nothing_known reports.run in
    step suites.run (reports.notes ++ (suites.notes ++ no_event_notes suites.run))

-- the end of a command is a contradiction if the command could not be started, ended by a signal, or ended with a status above 0 and nothing else says why
abbrev pub command_fails : ℕ → CommandView → Bool
command_fails causes (NotStarted error) = true
command_fails causes (BySignal number) = true
command_fails causes (WithStatus code) = not (code == 0) && causes == 0
command_fails causes (WithError code words) = causes == 0

-- what the end of the command says
abbrev pub command_notes : RunState → List NoteView
command_notes r = option_map_or (λ end. if command_fails r.causes end then Contradicts (unless_cancelled r (CommandFails end)) ∷ [] else []) r.command []

-- what the end of a file makes known
abbrev pub file_notes : RunState → List NoteView
file_notes r = let t = file_end r in t.notes ++ command_notes (learned t.run t.notes)

-- the run before the first line of a file
abbrev pub begun : RunState → RunState
begun r = record r {
  headings = [];
  heading = None;
  has_event = false;
  lacked_events = false;
  others = no_others;
  recent = [];
  of_command = false;
  command = None;
  names = [];
  cancel = None;
  causes_at_file = r.causes;
  causes_at_cargo = r.causes;
  file_names = drop 1 r.file_names;
}

-- the run after the end of a file
abbrev pub after_file : RunState → RunState
after_file r = begun (learned (file_end r).run (file_notes r))

-- the sums and the outcome
abbrev pub end_of : RunState → RunEnd
end_of r = ending r.totals r.contradictions r.cancels

-- the run before the end of its last file, when it is known how the command ended that wrote the file, if one did
abbrev pub with_command : RunState → Option CommandView → RunState
with_command r None = r
with_command r (Some end) = after r (CommandOver end)
