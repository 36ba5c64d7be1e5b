-- The end of the last file.
use Rattle.std.proofs.Common.{◌∙◌, ap, map, option_map}
use Rattle.std.proofs.lemmas.List.{map-append}
use Rattle.test_report_run.specs.Run.{run_state}
use Rattle.test_report_run_notes.specs.Note.{command_view, note_view}
use Rattle.test_report_programs.specs.Lines.{programs_state, step}
use Rattle.test_report_programs.proofs.Steps.{file-over}
use Rattle.test_report_programs.proofs.run.ProgramRun.finish.Goals as goal

pub returns-clause-tells : goal.returns-clause-tells
returns-clause-tells c =
    file-over (programs_state c.args.self.now) _ (step (programs_state c.close.new.self) (map note_view c.close.new.notes.items))
    (run_state c.finish.new.self) _ _ (option_map command_view c.args.command) c.in_ok-close.ensures c.in_ok-finished.ensures.tells
    c.in_ok-finished.ensures.takes c.begin_file.ensures (ap (map note_view) c.in_ok-append.ensures.items ∙ map-append note_view _ _)
