-- One more test ended.
use Rattle.std.proofs.Common.{◌∙◌, ◌+◌, ◌++◌, List, ℕ, ap, map}
use Rattle.test_report_events.specs.Event.{test_end_view}
use Rattle.test_report_run_notes.specs.Note.{note_view}
use Rattle.test_report_run_notes.specs.declared.note.Note.{Note}
use Rattle.test_report_run.specs.Run.{RunState, run_state, test_ends}
use Rattle.test_report_run.proofs.run.TestRun.on_test_ended.Goals as goal

pub returns-clause-takes : goal.returns-clause-takes
returns-clause-takes c =
    ap (λ (n : ℕ). record (run_state c.end_test.new.self) { ended = n }) c.in_ok-self.ensures.more
    ∙ ap (λ (r : RunState). record r { ended = r.ended + 1 }) c.in_ok-end_test.ensures.takes

pub returns-clause-tells : goal.returns-clause-tells
returns-clause-tells c =
    let e = test_end_view c.args.name.now c.args.end c.args.details in
    c.in_ok-end_test.ensures.tells
    ∙ ap (λ (notes : List Note). map note_view notes ++ (test_ends (run_state c.args.self.now) e).notes) c.reserve_exact.ensures.items
