-- The end that was put off.
use Rattle.std.proofs.Common.{◌∙◌, ap, map, option_map}
use Rattle.std.proofs.lemmas.Result.{on_ok_weaker}
use Rattle.test_report_run_notes.specs.Note.{note_view}
use Rattle.test_report_programs.specs.Lines.{over_view, programs_state, step}
use Rattle.test_report_programs.proofs.Steps.{settled-some}
use Rattle.test_report_programs.proofs.run.ProgramRun.settle.Goals as goal

pub returns-in-Some : goal.returns-in-Some
returns-in-Some c =
    on_ok_weaker c.program_over.result
    (λ over. over ∙ settled-some (step (programs_state c.args.self.now) (map note_view c.args.notes.now.items)) (over_view c.in-Some.over) _ _
    c.as_str.ensures.value (ap (option_map over_view) c.in-Some.ensures.value) (ap (option_map over_view) c.take.ensures.after)) c.program_over.ensures
