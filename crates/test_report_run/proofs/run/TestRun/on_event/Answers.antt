-- The steps at an event, one after the other.
use Rattle.std.proofs.Common.{◌∙◌, List, ap, map}
use Rattle.test_report_events.specs.Event.{event_view}
use Rattle.test_report_run_notes.specs.Note.{note_view}
use Rattle.test_report_run_notes.specs.declared.note.Note.{Note}
use Rattle.test_report_run.specs.Run.{learned, run_state}
use Rattle.test_report_run.proofs.Lines.{event-takes}
use Rattle.test_report_run.proofs.run.TestRun.on_event.Goals as goal

pub returns-clause-takes : goal.returns-clause-takes
returns-clause-takes c =
    event-takes (run_state c.args.self.now) (run_state c.settle_at.new.self) (run_state c.tell.new.self) (run_state c.learn.new.self)
    (run_state c.mark.new.self) (event_view c.args.event) _ _ _ (ap (map note_view) c.new-notes.ensures.items) c.in_ok-settle_at.ensures.takes
    c.in_ok-settle_at.ensures.tells c.in_ok-tell.ensures.takes c.in_ok-tell.ensures.tells
    (c.in_ok-learn.ensures.learns ∙ ap (λ (notes : List Note). learned (run_state c.tell.new.self) (map note_view notes)) c.deref.ensures.value) c.mark.ensures
