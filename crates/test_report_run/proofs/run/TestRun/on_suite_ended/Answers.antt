-- The last line of a suite.
use Rattle.std.proofs.Common.{◌≡◌, ◌∙◌, ◌++◌, List, ℕ, Option, None, Some, ap, map}
use Rattle.std.specs.List.{position}
use Rattle.std.specs.Option.{option_map_or}
use Rattle.std.proofs.lemmas.Result.{IfOk-equal}
use Rattle.test_report_events.specs.Event.{SuiteEndView, suite_end_view}
use Rattle.test_report_run_notes.specs.Note.{note_view}
use Rattle.test_report_run.specs.Run.{RunState, Step, ended_at, run_state, step, stray_suite_notes, suite_ends}
use Rattle.test_report_run.specs.Suite.{has_key}
use Rattle.test_report_run.proofs.run.TestRun.on_suite_ended.Goals as goal

-- the suite with the key is found, if it is open
found : (r : RunState) (e : SuiteEndView) (key : Option (List ℕ)) (place : Option ℕ) → place ≡ position (has_key key) r.suites → key ≡ e.key
    → option_map_or (ended_at r e) place (step r (stray_suite_notes e)) ≡ suite_ends r e
found r e key place is same =
    ap (λ (p : Option ℕ). option_map_or (ended_at r e) p (step r (stray_suite_notes e)))
    (is ∙ ap (λ (k : Option (List ℕ)). position (has_key k) r.suites) same)

pub returns-in-Some-clause-takes : goal.returns-in-Some-clause-takes
returns-in-Some-clause-takes c =
    IfOk-equal c.end_at.result _ _ _ c.end_at.ensures.takes
    (ap (λ (t : Step). t.run) (found (run_state c.args.self.now) (suite_end_view c.args.end) _ (Some c.in-Some.at) c.in-Some.ensures
    (c.as_deref.ensures.value ∙ c.in_ok-key.ensures)))

pub returns-in-Some-clause-tells : goal.returns-in-Some-clause-tells
returns-in-Some-clause-tells c =
    IfOk-equal c.end_at.result _ _ _ c.end_at.ensures.tells
    (ap (λ (t : Step). map note_view c.args.notes.now.items ++ t.notes) (found (run_state c.args.self.now) (suite_end_view c.args.end) _
    (Some c.in-Some.at) c.in-Some.ensures (c.as_deref.ensures.value ∙ c.in_ok-key.ensures)))

pub returns-in_ok-push_stray_end-in-None-clause-takes : goal.returns-in_ok-push_stray_end-in-None-clause-takes
returns-in_ok-push_stray_end-in-None-clause-takes c =
    ap (λ (t : Step). t.run) (found (run_state c.args.self.now) (suite_end_view c.args.end) _ None c.in-None.ensures
    (c.as_deref.ensures.value ∙ c.in_ok-key.ensures))

pub returns-in_ok-push_stray_end-in-None-clause-tells : goal.returns-in_ok-push_stray_end-in-None-clause-tells
returns-in_ok-push_stray_end-in-None-clause-tells c =
    c.in_ok-push_stray_end-in-None.ensures
    ∙ ap (λ (t : Step). map note_view c.args.notes.now.items ++ t.notes) (found (run_state c.args.self.now) (suite_end_view c.args.end) _ None
    c.in-None.ensures (c.as_deref.ensures.value ∙ c.in_ok-key.ensures))
