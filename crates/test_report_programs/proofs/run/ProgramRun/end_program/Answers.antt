-- A program ended.
use Rattle.std.proofs.Common.{◌∙◌, List, ap, map, string_bytes, sym, ℕ}
use Rattle.std.proofs.lemmas.Result.{on_ok_weaker}
use Rattle.test_report_run_notes.specs.Note.{note_view}
use Rattle.test_report_programs.specs.Lines.{OverView, program_state, programs_state, step}
use Rattle.test_report_programs.proofs.Steps.{ended-over, ended-put_off, ended-unstarted, ended-zero, seen-none}
use Rattle.test_report_programs.proofs.run.ProgramRun.end_program.Goals as goal

pub returns-then-is_zero : goal.returns-then-is_zero
returns-then-is_zero c =
    ended-zero (record { end = c.args.end; stderr = c.args.stderr.now })
    (step (programs_state c.args.self.now) (map note_view c.args.notes.now.items)) _
    c.in_ok-settle.ensures
    (seen-none program_state c.settle.new.self.program _ _ c.is_none.ensures c.if-is_none.true) (sym c.is_zero.ensures ∙ c.if-is_zero.true)

pub returns-then-is_none : goal.returns-then-is_none
returns-then-is_none c =
    on_ok_weaker c.tell_fault.result
    (ended-unstarted (record { end = c.args.end; stderr = c.args.stderr.now })
    (step (programs_state c.args.self.now) (map note_view c.args.notes.now.items)) _ _
    c.in_ok-settle.ensures
    (seen-none program_state c.settle.new.self.program _ _ c.is_none.ensures c.if-is_none.true)
    (sym c.is_zero.ensures ∙ c.if-is_zero.false)) c.tell_fault.ensures

pub returns-then-may_be_cancelled : goal.returns-then-may_be_cancelled
returns-then-may_be_cancelled c =
    let over : List ℕ → OverView = λ stderr. record { end = c.args.end; stderr = stderr } in
    ended-put_off (over c.args.stderr.now) (over (string_bytes c.in_ok-stderr.stderr))
    (step (programs_state c.args.self.now) (map note_view c.args.notes.now.items)) _ c.in_ok-settle.ensures
    (seen-none program_state c.settle.new.self.program _ _ c.is_none.ensures c.if-is_none.false)
    (sym c.may_be_cancelled.ensures ∙ c.if-may_be_cancelled.true) (ap over c.in_ok-stderr.ensures.ok)

pub returns : goal.returns
returns c =
    on_ok_weaker c.program_over.result
    (ended-over (record { end = c.args.end; stderr = c.args.stderr.now })
    (step (programs_state c.args.self.now) (map note_view c.args.notes.now.items)) _ _
    c.in_ok-settle.ensures
    (seen-none program_state c.settle.new.self.program _ _ c.is_none.ensures c.if-is_none.false)
    (sym c.may_be_cancelled.ensures ∙ c.if-may_be_cancelled.false)) c.program_over.ensures
