-- The steps at the end of a file, one after the other.
use Rattle.std.proofs.Common.{◌∙◌, List, ap, map}
use Rattle.test_report_run_notes.specs.Note.{note_view}
use Rattle.test_report_run_notes.specs.declared.note.Note.{Note}
use Rattle.test_report_run.specs.Run.{learned, run_state}
use Rattle.test_report_run.proofs.FileEnds.{file-takes, file-tells, known-first}
use Rattle.test_report_run.proofs.run.TestRun.end_file.Goals as goal

pub returns-clause-tells : goal.returns-clause-tells
returns-clause-tells c =
    let known = known-first _ (run_state c.args.self.now) _ _ _ _ _ _ _ _ c.unknown.ensures (ap (map note_view) c.new-notes.ensures.items)
    c.in_ok-settle.ensures.takes
    c.in_ok-settle.ensures.tells c.in_ok-tell_held.ensures.takes c.in_ok-tell_held.ensures.tells c.in_ok-end_suites.ensures.takes
    c.in_ok-end_suites.ensures.tells c.in_ok-push_no_event.ensures in
    file-tells (run_state c.args.self.now) _ _ _ _ known
    (c.in_ok-learn.ensures.learns ∙ ap (λ (notes : List Note). learned (run_state c.end_suites.new.self) (map note_view notes)) c.deref.ensures.value)
    c.in_ok-end_command.ensures.tells

pub returns-clause-takes : goal.returns-clause-takes
returns-clause-takes c =
    let known = known-first _ (run_state c.args.self.now) _ _ _ _ _ _ _ _ c.unknown.ensures (ap (map note_view) c.new-notes.ensures.items)
    c.in_ok-settle.ensures.takes
    c.in_ok-settle.ensures.tells c.in_ok-tell_held.ensures.takes c.in_ok-tell_held.ensures.tells c.in_ok-end_suites.ensures.takes
    c.in_ok-end_suites.ensures.tells c.in_ok-push_no_event.ensures in
    file-takes (run_state c.args.self.now) _ (run_state c.learn.new.self) (run_state c.end_command.new.self) _ _ known
    (c.in_ok-learn.ensures.learns ∙ ap (λ (notes : List Note). learned (run_state c.end_suites.new.self) (map note_view notes)) c.deref.ensures.value)
    c.in_ok-end_command.ensures.takes c.begin_file.ensures
