-- The end of a test that is not running.
use Rattle.std.proofs.Common.{◌≡◌, ◌∙◌, ◌++◌, ◌∷◌, [], List, ap, append_assoc, map, refl}
use Rattle.std.proofs.lemmas.Result.{on_ok_weaker}
use Rattle.test_report_events.specs.Event.{TestEndView, test_end_view}
use Rattle.test_report_events.specs.declared.event.TestResult.TheVariants.{Failed, Ignored}
use Rattle.test_report_run_notes.specs.Note.{Contradicts, NoteView, StrayEnds, note_view}
use Rattle.test_report_run.specs.Run.{RunState, Step, run_state, step, stray_counted, stray_ends, stray_test}
use Rattle.test_report_run.proofs.run.TestRun.on_stray_end.Goals as goal

failed : (r : RunState) (e : TestEndView) → e.result ≡ Failed
    → step (stray_counted r e) (stray_test r e ++ Contradicts (StrayEnds e.name e.result) ∷ []) ≡ stray_ends r e
failed r e is = rw is refl

ignored : (r : RunState) (e : TestEndView) → e.result ≡ Ignored → step (stray_counted r e) (stray_test r e) ≡ stray_ends r e
ignored r e is = rw is refl

pub returns-in_ok-push_stray_end-in-Failed-clause-takes : goal.returns-in_ok-push_stray_end-in-Failed-clause-takes
returns-in_ok-push_stray_end-in-Failed-clause-takes c =
    c.in_ok-count_stray-in-Failed.ensures.takes
    ∙ ap (λ (t : Step). t.run) (failed (run_state c.args.self.now) (test_end_view c.args.name.now c.args.end c.args.details) c.in-Failed.is)

pub returns-in_ok-push_stray_end-in-Failed-clause-tells : goal.returns-in_ok-push_stray_end-in-Failed-clause-tells
returns-in_ok-push_stray_end-in-Failed-clause-tells c =
    let r = run_state c.args.self.now in
    let e = test_end_view c.args.name.now c.args.end c.args.details in
    let notes = map note_view c.args.notes.now.items in
    let stray = Contradicts (StrayEnds c.args.name.now c.args.end) ∷ [] in
    c.in_ok-push_stray_end-in-Failed.ensures ∙ ap (λ (all : List NoteView). all ++ stray) c.in_ok-count_stray-in-Failed.ensures.tells
    ∙ append_assoc notes (stray_test r e) stray ∙ ap (λ (t : Step). notes ++ t.notes) (failed r e c.in-Failed.is)

pub returns-in-Ignored-clause-takes : goal.returns-in-Ignored-clause-takes
returns-in-Ignored-clause-takes c =
    on_ok_weaker c.count_stray-in-Ignored.result
    (λ takes. takes ∙ ap (λ (t : Step). t.run) (ignored (run_state c.args.self.now) (test_end_view c.args.name.now c.args.end c.args.details) c.in-Ignored.is))
    c.count_stray-in-Ignored.ensures.takes

pub returns-in-Ignored-clause-tells : goal.returns-in-Ignored-clause-tells
returns-in-Ignored-clause-tells c =
    let notes = map note_view c.args.notes.now.items in
    on_ok_weaker c.count_stray-in-Ignored.result
    (λ tells. tells ∙ ap (λ (t : Step). notes ++ t.notes)
    (ignored (run_state c.args.self.now) (test_end_view c.args.name.now c.args.end c.args.details) c.in-Ignored.is))
    c.count_stray-in-Ignored.ensures.tells
