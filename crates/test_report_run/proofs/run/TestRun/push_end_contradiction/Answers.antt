-- A contradiction, or that the run was cancelled.
use Rattle.std.proofs.Common.{◌∙◌, ◌++◌, ◌∷◌, [], ap, map}
use Rattle.test_report_run_notes.specs.Note.{ContradictionView, Contradicts, note_view}
use Rattle.test_report_run.specs.Run.{learned, run_state}
use Rattle.test_report_run.proofs.run.TestRun.push_end_contradiction.Goals as goal

pub returns-clause-takes : goal.returns-clause-takes
returns-clause-takes c =
    c.in_ok-learn_contradiction.ensures.learns
    ∙ ap (λ (d : ContradictionView). learned (run_state c.args.self.now) (Contradicts d ∷ [])) c.unless_cancelled-contradiction.ensures

pub returns-clause-tells : goal.returns-clause-tells
returns-clause-tells c =
    c.in_ok-push_contradiction.ensures
    ∙ ap (λ (d : ContradictionView). map note_view c.args.notes.now.items ++ Contradicts d ∷ []) c.unless_cancelled-contradiction.ensures
