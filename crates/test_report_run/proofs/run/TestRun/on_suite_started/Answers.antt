-- The first line of a suite.
use Rattle.std.proofs.Common.{◌≡◌, ◌∙◌, ◌++◌, [], List, ℕ, None, Option, Some, ap, append-nil, map, sym}
use Rattle.std.specs.List.{position}
use Rattle.std.specs.Option.{option_map_or}
use Rattle.std.proofs.lemmas.Result.{IfOk-equal, on_ok_weaker}
use Rattle.test_report_run_notes.specs.Note.{note_view, text_view}
use Rattle.test_report_run.specs.Run.{RunState, Step, opened, run_state, started_again, step, suite_starts}
use Rattle.test_report_run.specs.Suite.{has_key}
use Rattle.test_report_run.proofs.run.TestRun.on_suite_started.Goals as goal

-- the suite with the key is found, if it is open
found : (r : RunState) (seen own key : Option (List ℕ)) (count n place : Option ℕ) → place ≡ position (has_key seen) r.suites → seen ≡ own → own ≡ key
    → count ≡ n → option_map_or (started_again r own count) place (step (opened r own count) []) ≡ suite_starts r key n
found r seen own key count n place is same named number =
    ap (λ (p : Option ℕ). option_map_or (started_again r own count) p (step (opened r own count) []))
    (is ∙ ap (λ (k : Option (List ℕ)). position (has_key k) r.suites) same)
    ∙ ap (λ (k : Option (List ℕ)). suite_starts r k count) named ∙ ap (λ (m : Option ℕ). suite_starts r key m) number

pub start_again-requires-clause-has_key : goal.start_again-requires-clause-has_key
start_again-requires-clause-has_key c =
    sym (c.in-Some.ensures ∙ ap (λ k. position (has_key k) (run_state c.args.self.now).suites) c.as_deref.ensures.value)

pub open-requires : goal.open-requires
open-requires c = sym (c.in-None.ensures ∙ ap (λ k. position (has_key k) (run_state c.args.self.now).suites) c.as_deref.ensures.value)

pub returns-in-Some-clause-takes : goal.returns-in-Some-clause-takes
returns-in-Some-clause-takes c =
    IfOk-equal c.start_again.result _ _ _ c.start_again.ensures.takes
    (ap (λ (t : Step). t.run) (found (run_state c.args.self.now) _ (text_view c.in_ok-key.key) _ c.wide-test_count.result _ (Some c.in-Some.at)
    c.in-Some.ensures c.as_deref.ensures.value c.in_ok-key.ensures c.wide-test_count.ensures))

pub returns-in-Some-clause-tells : goal.returns-in-Some-clause-tells
returns-in-Some-clause-tells c =
    IfOk-equal c.start_again.result _ _ _ c.start_again.ensures.tells
    (ap (λ (t : Step). map note_view c.args.notes.now.items ++ t.notes) (found (run_state c.args.self.now) _ (text_view c.in_ok-key.key) _
    c.wide-test_count.result _ (Some c.in-Some.at) c.in-Some.ensures c.as_deref.ensures.value c.in_ok-key.ensures c.wide-test_count.ensures))

pub returns-in-None-clause-takes : goal.returns-in-None-clause-takes
returns-in-None-clause-takes c =
    IfOk-equal c.open.result _ _ _ c.open.ensures.takes
    (ap (λ (t : Step). t.run) (found (run_state c.args.self.now) _ (text_view c.in_ok-key.key) _ c.wide-test_count.result _ None
    c.in-None.ensures c.as_deref.ensures.value c.in_ok-key.ensures c.wide-test_count.ensures))

pub returns-in-None-clause-tells : goal.returns-in-None-clause-tells
returns-in-None-clause-tells c =
    on_ok_weaker c.open.result (λ opens. sym (append-nil (map note_view c.args.notes.now.items))
    ∙ ap (λ (t : Step). map note_view c.args.notes.now.items ++ t.notes) (found (run_state c.args.self.now) _ (text_view c.in_ok-key.key) _
    c.wide-test_count.result _ None c.in-None.ensures c.as_deref.ensures.value c.in_ok-key.ensures c.wide-test_count.ensures)) c.open.ensures.takes
