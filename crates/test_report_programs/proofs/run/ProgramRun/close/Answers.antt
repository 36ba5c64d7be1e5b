-- What is wrong at the end of a file.
use Rattle.std.proofs.Common.{◌∙◌, List, ap, map, sym}
use Rattle.std.proofs.lemmas.Result.{on_ok_weaker}
use Rattle.test_report_run_notes.specs.Note.{note_view}
use Rattle.test_report_run_notes.specs.declared.note.Note.{Note}
use Rattle.test_report_programs.specs.Lines.{program_lost, programs_state, settled, step}
use Rattle.test_report_programs.proofs.Steps.{closed-cut, closed-done, closed-uncounted}
use Rattle.test_report_programs.proofs.run.ProgramRun.close.Goals as goal

pub returns-then-not-unwrap_or : goal.returns-then-not-unwrap_or
returns-then-not-unwrap_or c =
    let s = programs_state c.args.self.now in
    ap (λ (notes : List Note). step s (map note_view notes)) c.requires
    ∙ closed-uncounted s (sym c.unwrap_or.ensures ∙ c.if-not-unwrap_or.true)

pub returns-then-self : goal.returns-then-self
returns-then-self c =
    let s = programs_state c.args.self.now in
    let lost = c.in_ok-lose_program.ensures ∙ ap (λ (notes : List Note). program_lost (settled (step s (map note_view notes)))) c.requires in
    closed-done s _ (sym c.unwrap_or.ensures ∙ c.if-not-unwrap_or.false) lost c.if-self.true

pub returns : goal.returns
returns c =
    let s = programs_state c.args.self.now in
    let lost = c.in_ok-lose_program.ensures ∙ ap (λ (notes : List Note). program_lost (settled (step s (map note_view notes)))) c.requires in
    on_ok_weaker c.tell_fault.result (closed-cut s _ _ (sym c.unwrap_or.ensures ∙ c.if-not-unwrap_or.false) lost c.if-self.false) c.tell_fault.ensures
