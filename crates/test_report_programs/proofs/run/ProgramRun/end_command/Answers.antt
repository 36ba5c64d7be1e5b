-- The command ended.
use Rattle.std.proofs.Common.{◌∙◌, map, option_map, sym}
use Rattle.test_report_run_notes.specs.Note.{note_view}
use Rattle.test_report_programs.specs.Lines.{programs_state, step}
use Rattle.test_report_programs.proofs.Steps.{command-again, command-ends}
use Rattle.test_report_programs.proofs.run.ProgramRun.end_command.Goals as goal

pub returns-then-ends_again : goal.returns-then-ends_again
returns-then-ends_again c =
    command-again (step (programs_state c.args.self.now) (map note_view c.args.notes.now.items)) _ _
    c.args.end (option_map (λ e. e.now) c.args.error) c.args.reason
    (c.cancel.ensures (map note_view c.args.notes.now.items)) c.in_ok-lose_program.ensures (sym c.ends_again.ensures ∙ c.if-ends_again.true)

pub returns : goal.returns
returns c =
    command-ends (step (programs_state c.args.self.now) (map note_view c.args.notes.now.items)) _ _ _
    c.args.end (option_map (λ e. e.now) c.args.error) c.args.reason _
    (c.cancel.ensures (map note_view c.args.notes.now.items)) c.in_ok-lose_program.ensures (sym c.ends_again.ensures ∙ c.if-ends_again.false)
    c.in_ok-command.ensures c.on_command_ended.ensures
