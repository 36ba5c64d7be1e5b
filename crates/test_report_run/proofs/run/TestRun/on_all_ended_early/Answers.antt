-- All that is open ends early, and then its notes are counted.
use Rattle.std.proofs.Common.{◌∙◌, ◌++◌, List, ap, map}
use Rattle.test_report_run_notes.specs.Note.{NoteView, note_view}
use Rattle.test_report_run_notes.specs.declared.note.Note.{Note}
use Rattle.test_report_run.specs.Over.{EarlyEnd, early_end_of, early_view}
use Rattle.test_report_run.specs.Run.{RunState, all_ended_early, early_end, learned, run_state}
use Rattle.test_report_run.proofs.run.TestRun.on_all_ended_early.Goals as goal

pub returns-clause-tells : goal.returns-clause-tells
returns-clause-tells c =
    let r = run_state c.args.self.now in
    c.in_ok-end_suites.ensures.tells
    ∙ ap (λ (old : List NoteView). old ++ (all_ended_early (early_end_of c.ending-how.result) r).notes) (ap (map note_view) c.new-notes.ensures.items)
    ∙ ap (λ (how : EarlyEnd). (all_ended_early how r).notes) c.ending-how.ensures

pub returns-clause-takes : goal.returns-clause-takes
returns-clause-takes c =
    let r = run_state c.args.self.now in
    let how = early_end r (early_view c.args.end) in
    let ended = c.in_ok-end_suites.ensures.takes ∙ ap (λ (how : EarlyEnd). (all_ended_early how r).run) c.ending-how.ensures in
    c.in_ok-learn.ensures.learns
    ∙ ap (λ (notes : List Note). learned (run_state c.end_suites.new.self) (map note_view notes)) c.deref.ensures.value
    ∙ ap (λ (notes : List NoteView). learned (run_state c.end_suites.new.self) notes) (returns-clause-tells c)
    ∙ ap (λ (x : RunState). learned x (all_ended_early how r).notes) ended
