-- The events of a line, and what it says of a program or of the command.
use Rattle.std.proofs.Common.{map}
use Rattle.std.proofs.lemmas.Result.{on_ok_weaker}
use Rattle.test_report_events.specs.Content.{events_of, program_of}
use Rattle.test_report_events.specs.Program.{program_view}
use Rattle.test_report_run_notes.specs.Note.{note_view}
use Rattle.test_report_programs.specs.Lines.{programs_state, step}
use Rattle.test_report_programs.proofs.Steps.{line-of-none, line-of-program, line-uncounted}
use Rattle.test_report_programs.proofs.run.ProgramRun.take_line.Goals as goal

pub returns-then-not-counts : goal.returns-then-not-counts
returns-then-not-counts c =
    let line = c.args.line.now in
    on_ok_weaker c.take_events.result
    (line-uncounted (step (programs_state c.args.self.now) (map note_view c.args.notes.now.items)) c.args.counts (events_of line) (program_of line) _
    c.if-not-counts.true) c.take_events.ensures

pub returns-in_ok-take_events-in-Some : goal.returns-in_ok-take_events-in-Some
returns-in_ok-take_events-in-Some c =
    let line = c.args.line.now in
    on_ok_weaker c.on_program_line.result
    (line-of-program (step (programs_state c.args.self.now) (map note_view c.args.notes.now.items)) c.args.counts (events_of line) (program_of line) _ _
    (program_view c.in-Some.program.now) c.if-not-counts.false c.in-Some.ensures c.in_ok-take_events-in-Some.ensures) c.on_program_line.ensures

pub returns-in_ok-settle-in-None : goal.returns-in_ok-settle-in-None
returns-in_ok-settle-in-None c =
    let line = c.args.line.now in
    on_ok_weaker c.take_events-in-None.result
    (line-of-none (step (programs_state c.args.self.now) (map note_view c.args.notes.now.items)) c.args.counts (events_of line) (program_of line) _ _
    c.if-not-counts.false c.in-None.ensures c.in_ok-settle-in-None.ensures) c.take_events-in-None.ensures
