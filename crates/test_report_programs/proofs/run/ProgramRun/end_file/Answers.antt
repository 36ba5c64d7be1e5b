-- The end of a file.
use Rattle.std.proofs.Common.{◌∙◌, None, ap, map}
use Rattle.std.proofs.lemmas.List.{map-append}
use Rattle.test_report_run.specs.Run.{run_state}
use Rattle.test_report_run_notes.specs.Note.{note_view}
use Rattle.test_report_programs.specs.Lines.{programs_state, step}
use Rattle.test_report_programs.proofs.Steps.{file-over}
use Rattle.test_report_programs.proofs.run.ProgramRun.end_file.Goals as goal

pub returns : goal.returns
returns c =
    file-over (programs_state c.args.self.now) _ (step (programs_state c.close.new.self) (map note_view c.close.new.notes.items))
    (run_state c.end_file.new.self) _ _ None c.in_ok-close.ensures c.in_ok-end_file.ensures.tells c.in_ok-end_file.ensures.takes c.begin_file.ensures
    (ap (map note_view) c.in_ok-append.ensures.items ∙ map-append note_view _ _)
