-- No line says how the program ended.
use Rattle.std.proofs.Common.{map}
use Rattle.std.proofs.lemmas.Result.{on_ok_weaker}
use Rattle.test_report_run.specs.Over.{early_view}
use Rattle.test_report_run_notes.specs.Note.{note_view}
use Rattle.test_report_programs.specs.Lines.{program_state, programs_state, step}
use Rattle.test_report_programs.proofs.Steps.{lost-none, lost-some, seen-none}
use Rattle.test_report_programs.proofs.run.ProgramRun.lose_program.Goals as goal

pub returns-then-is_none : goal.returns-then-is_none
returns-then-is_none c =
    lost-none (step (programs_state c.args.self.now) (map note_view c.args.notes.now.items))
    (step (programs_state c.settle.new.self) (map note_view c.settle.new.notes.items))
    (seen-none program_state c.settle.new.self.program _ _ c.is_none.ensures c.if-is_none.true) c.in_ok-settle.ensures

pub returns : goal.returns
returns c =
    on_ok_weaker c.end_early.result
    (lost-some (step (programs_state c.args.self.now) (map note_view c.args.notes.now.items))
    (step (programs_state c.settle.new.self) (map note_view c.settle.new.notes.items)) _ (early_view c.unknown.result)
    (seen-none program_state c.settle.new.self.program _ _ c.is_none.ensures c.if-is_none.false) c.in_ok-settle.ensures
    c.unknown.ensures) c.end_early.ensures
