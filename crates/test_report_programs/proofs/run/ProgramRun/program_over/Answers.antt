-- A program is over.
use Rattle.std.proofs.Common.{map}
use Rattle.std.proofs.lemmas.Result.{on_ok_weaker}
use Rattle.test_report_run_notes.specs.Note.{note_view}
use Rattle.test_report_programs.specs.Lines.{programs_state, step}
use Rattle.test_report_programs.proofs.Steps.{over-steps}
use Rattle.test_report_programs.proofs.run.ProgramRun.program_over.Goals as goal

pub returns : goal.returns
returns c =
    on_ok_weaker c.end_early.result
    (over-steps (record { end = c.args.end; stderr = c.args.stderr.now }) (step (programs_state c.args.self.now) (map note_view c.args.notes.now.items)) _ _ _
    c.in_ok-print_lines.ensures c.in_ok-early_end.ensures) c.end_early.ensures
