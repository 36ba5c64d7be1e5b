-- The steps of a line.
use Rattle.std.proofs.Common.{◌∙◌, ap, map}
use Rattle.std.specs.Prelude.{is_some, unwrap_or}
use Rattle.test_report_events.specs.Content.{events_of, program_of}
use Rattle.test_report_events.specs.Program.{program_view}
use Rattle.test_report_run_notes.specs.Note.{note_view}
use Rattle.test_report_programs.specs.Lines.{programs_state}
use Rattle.test_report_programs.proofs.Steps.{line-steps, seen-some}
use Rattle.test_report_programs.proofs.run.ProgramRun.on_line.Goals as goal

pub returns : goal.returns
returns c =
    let line = c.args.line.now in
    line-steps (programs_state c.args.self.now) (events_of line) (program_of line) c.unwrap_or-counts.result _ _
    (c.unwrap_or-counts.ensures ∙ ap (unwrap_or c.args.self.now.counts)
    (c.is_some.ensures ∙ (seen-some (λ line. program_view line.now) c.program.result ∙ ap is_some c.program.ensures)))
    (ap (map note_view) c.new-notes.ensures.items) c.in_ok-take_line.ensures
