-- The open suites end early, and then the tests outside of a suite.
use Rattle.std.proofs.Common.{◌≡◌, ◌∙◌, [], Err, Ok, Result, ap, arith, map, map-id, sym}
use Rattle.std.specs.Result.{IsErr, OnOk}
use Rattle.std.specs.List.{fold}
use Rattle.std.proofs.lemmas.Iterator.Consumers.{YieldsList-end}
use Rattle.std.proofs.lemmas.Iterator.Adapters.{YieldsList-from_vec}
use Rattle.std.proofs.lemmas.Result.{on_ok_weaker}
use Rattle.test_report_run_notes.specs.Note.{note_view}
use Rattle.test_report_run.specs.Over.{early_end_of}
use Rattle.test_report_run.specs.Run.{Step, all_ended_early, ended_early, run_state, step}
use Rattle.test_report_run.specs.Suite.{state_of}
use Rattle.test_report_run.specs.declared.suite.Suite.{Suite}
use Rattle.test_report_run.proofs.FileEnds.{suites-more, suites-taken, with_before}
use Rattle.test_report_run.proofs.Runs.{boxed_state}
use Rattle.test_report_run.proofs.run.TestRun.end_suites.Goals as goal

pub loop-suite-preserved : goal.loop-suite-preserved
loop-suite-preserved c =
    let how = early_end_of c.args.how.now in
    let start : Step = step (record (run_state c.args.self.now) { suites = [] }) (map note_view c.args.notes.now.items) in
    c.in_ok-end_early.ensures ∙ ap (λ (t : Step). ended_early how t (state_of c.into_inner.result)) c.loop-suite.invariant
    ∙ ap (λ (s : Suite). ended_early how (fold (ended_early how) start (map boxed_state c.loop-suite.yielded)) (state_of s)) c.into_inner.ensures
    ∙ sym (suites-more how start c.loop-suite.yielded c.in-Some.suite)

-- all of them end early
all-end : (c : goal.After-end_early-2) → OnOk c.end_early-2.result
    (step (run_state c.end_early-2.new.self) (map note_view c.end_early-2.new.notes.items)
    ≡ with_before (map note_view c.args.notes.now.items) (all_ended_early (early_end_of c.args.how.now) (run_state c.args.self.now)))
all-end c =
    let gives = c.into_iter-suite-iterator.ensures.into_iter_gives in
    let given = c.take_all-suite-items.result in
    let end = YieldsList-end (YieldsList-from_vec given.items gives.0 (omega (arith, gives.1, given.ok))) c.loop-suite.yielded _ c.loop-suite.yielded_by
    _ c.next.new.self c.in-None.is c.next.ensures.steps in
    let all : map boxed_state c.loop-suite.yielded ≡ (run_state c.args.self.now).suites =
    ap (map boxed_state) (sym (map-id c.loop-suite.yielded) ∙ end.0) ∙ c.take_all-suite-items.ensures.taken in
    on_ok_weaker c.end_early-2.result
    (suites-taken (early_end_of c.args.how.now) (run_state c.args.self.now) (run_state c.loop-suite.self) _ (map note_view c.args.notes.now.items)
    (map note_view c.loop-suite.notes.items) _ c.loop-suite.yielded (state_of c.replace-outside.new.dest)
    (state_of c.replace-outside.result) c.loop-suite.invariant all (ap state_of c.replace-outside.ensures.value)
    (ap state_of c.replace-outside.ensures.after ∙ c.outside.ensures)) c.end_early-2.ensures

pub returns-clause-takes : goal.returns-clause-takes
returns-clause-takes c = on_ok_weaker c.end_early-2.result (λ end. ap (λ (t : Step). t.run) end) (all-end c)

pub returns-clause-tells : goal.returns-clause-tells
returns-clause-tells c = on_ok_weaker c.end_early-2.result (λ end. ap (λ (t : Step). t.notes) end) (all-end c)

-- an error owes nothing
owes-nothing : {T E : Type 0} (r : Result T E) (P : Type 0) → IsErr r → OnOk r P
owes-nothing (Ok value) P h = absurd (cc)
owes-nothing (Err error) P h = tt

pub returns-in_err-end_early-clause-tells : goal.returns-in_err-end_early-clause-tells
returns-in_err-end_early-clause-tells c = owes-nothing c.from_residual.result _ c.from_residual.ensures.0
