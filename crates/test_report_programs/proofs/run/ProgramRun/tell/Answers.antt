-- An event is told to the run, and what it makes known is kept.
use Rattle.std.proofs.Common.{map}
use Rattle.test_report_run_notes.specs.Note.{note_view}
use Rattle.test_report_programs.specs.Lines.{programs_state, step}
use Rattle.test_report_programs.proofs.Steps.{told-by}
use Rattle.test_report_programs.proofs.run.ProgramRun.tell.Goals as goal

pub returns : goal.returns
returns c =
    told-by (step (programs_state c.args.self.now) (map note_view c.args.notes.now.items)) _ _ _ _ _ _ c.is_start.ensures
    c.in_ok-told.ensures.tells c.in_ok-told.ensures.takes c.keep.ensures.keeps c.in_ok-keep.ensures.tells
