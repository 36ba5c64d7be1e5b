-- A line of a program or of the command.
use Rattle.std.proofs.Common.{ap, map}
use Rattle.std.proofs.lemmas.Result.{on_ok_weaker}
use Rattle.test_report_events.specs.Program.{CommandBegins, ProgramStarts, program_view, start_view}
use Rattle.test_report_run_notes.specs.Note.{note_view}
use Rattle.test_report_programs.specs.Lines.{programs_state, step}
use Rattle.test_report_programs.proofs.Steps.{cancels-is, line-is}
use Rattle.test_report_programs.proofs.run.ProgramRun.on_program_line.Goals as goal

pub returns-in-ProgramStarted : goal.returns-in-ProgramStarted
returns-in-ProgramStarted c =
    on_ok_weaker c.start_program.result
    (line-is (step (programs_state c.args.self.now) (map note_view c.args.notes.now.items)) _ (program_view c.args.line.now)
    (ProgramStarts (start_view c.in-ProgramStarted.start)) (ap program_view c.in-ProgramStarted.is)) c.start_program.ensures

pub returns-in-CommandStarted : goal.returns-in-CommandStarted
returns-in-CommandStarted c =
    on_ok_weaker c.settle.result
    (line-is (step (programs_state c.args.self.now) (map note_view c.args.notes.now.items)) _ (program_view c.args.line.now)
    CommandBegins (ap program_view c.in-CommandStarted.is)) c.settle.ensures

pub returns-in-CommandCancelled : goal.returns-in-CommandCancelled
returns-in-CommandCancelled c =
    on_ok_weaker c.settle-in-CommandCancelled.result
    (cancels-is (step (programs_state c.args.self.now) (map note_view c.args.notes.now.items)) _ _ (program_view c.args.line.now)
    c.in-CommandCancelled.reason (ap program_view c.in-CommandCancelled.is) (c.cancel.ensures (map note_view c.args.notes.now.items)))
    c.settle-in-CommandCancelled.ensures
