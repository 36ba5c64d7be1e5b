-- A test counts in its suite when it ends.
use Rattle.std.proofs.Common.{◌≡◌, [], ◌++◌, ◌<◌, ◌∙◌, List, ap, arith, length, map, refl, sym}
use Rattle.std.proofs.lemmas.Grind.{common_steps}
use Rattle.std.proofs.lemmas.Result.{on_ok_weaker}
use Rattle.test_report_events.specs.Event.{TestEndView, test_end_view}
use Rattle.test_report_run_notes.specs.Note.{NoteView, note_view}
use Rattle.test_report_run.specs.Ended.{after_end, end_notes}
use Rattle.test_report_run.specs.Run.{heard, place_of_number, run_state, running_over, suite_at}
use Rattle.test_report_run.specs.Running.{running_test_view}
use Rattle.test_report_run.specs.Suite.{OverView, SuiteState, state_of}
use Rattle.test_report_run.specs.declared.others.EventPlace.{EventPlace}
use Rattle.test_report_run.proofs.OpenSteps.{key-kept, number-kept}
use Rattle.test_report_run.proofs.Runs.{end_notes-after_event, heard-end, suite-at, with_outside, with_suite-at}
use Rattle.test_report_run.proofs.run.TestRun.count_end.Goals as goal

-- the notes of the test
end-noted : (s place : SuiteState) (notes after : List NoteView) (e : TestEndView) (t over : OverView) (event : EventPlace)
    → after ≡ notes ++ end_notes (record s { last_event = event }) t e → t ≡ over → s ≡ place → after ≡ notes ++ end_notes place over e
end-noted s place notes after e t over event tells same at =
    tells ∙ ap (λ (all : List NoteView). notes ++ all) (end_notes-after_event s event t e)
    ∙ ap (λ (t : OverView). notes ++ end_notes s t e) same ∙ ap (λ (s : SuiteState). notes ++ end_notes s over e) at

pub invariant_of-self : goal.invariant_of-self
invariant_of-self c =
    let o = c.args.self.now.suites in
    let old = c.index_mut.result.now in
    let inside = c.deref_mut-suite.result.now in
    let kept = c.on_end.ensures in
    record {
      numbered = number-kept o.list.items c.in-Some.at old inside c.on_end.new.self
          c.index_mut.ensures.value c.deref_mut-suite.ensures.value kept.number ∙ o.numbered;
      rising = o.rising;
      below = o.below;
      keyed = rw (key-kept o.list.items c.in-Some.at old inside c.on_end.new.self
          c.index_mut.ensures.value c.deref_mut-suite.ensures.value kept.key) o.keyed;
    }

pub returns-in-Some-clause-takes : goal.returns-in-Some-clause-takes
returns-in-Some-clause-takes c =
    let r = run_state c.args.self.now in
    let e = test_end_view [] c.args.end c.args.details in
    let test = running_test_view c.args.test in
    let over = running_over r e test c.args.attempts in
    let inside : c.in-Some.at < length c.args.self.now.suites.list.items = grind (arith, common_steps) in
    on_ok_weaker c.on_end.result (λ takes.
    with_suite-at r _ c.args.self.now.suites.list.items c.in-Some.at (place_of_number r c.args.test.suite) c.index_mut.result.now c.deref_mut-suite.result.now
    c.on_end.new.self (λ s. after_end s over test.order e) refl refl inside c.in-Some.ensures c.index_mut.ensures.value c.deref_mut-suite.ensures.value
    (heard-end r (state_of c.deref_mut-suite.result.now) _ _ test.order e c.event_place-event.result takes c.event_place-event.ensures
    ∙ ap (λ slow. heard r (after_end (state_of c.deref_mut-suite.result.now) (record over { slow = slow }) test.order e)) c.is_slow-slow.ensures))
    c.on_end.ensures.takes

pub returns-in-Some-clause-tells : goal.returns-in-Some-clause-tells
returns-in-Some-clause-tells c =
    let r = run_state c.args.self.now in
    let e = test_end_view [] c.args.end c.args.details in
    let test = running_test_view c.args.test in
    let over = running_over r e test c.args.attempts in
    let inside : c.in-Some.at < length c.args.self.now.suites.list.items = grind (arith, common_steps) in
    let place = suite-at r c.args.self.now.suites.list.items c.in-Some.at (place_of_number r c.args.test.suite) c.index_mut.result.now refl
    inside c.in-Some.ensures c.index_mut.ensures.value ∙ sym (ap state_of c.deref_mut-suite.ensures.value) in
    on_ok_weaker c.on_end.result (λ tells.
    end-noted (state_of c.deref_mut-suite.result.now) _ (map note_view c.args.notes.now.items) _ e _ over c.event_place-event.result tells
    (ap (λ slow. record over { slow = slow }) c.is_slow-slow.ensures) (sym place))
    c.on_end.ensures.tells

pub returns-in-None-clause-takes : goal.returns-in-None-clause-takes
returns-in-None-clause-takes c =
    let r = run_state c.args.self.now in
    let e = test_end_view [] c.args.end c.args.details in
    let test = running_test_view c.args.test in
    let over = running_over r e test c.args.attempts in
    on_ok_weaker c.on_end-in-None.result (λ takes.
    with_outside r _ (place_of_number r c.args.test.suite) c.on_end-in-None.new.self (λ s. after_end s over test.order e) refl c.in-None.ensures
    (heard-end r r.outside _ _ test.order e c.event_place-event.result takes c.event_place-event.ensures
    ∙ ap (λ slow. heard r (after_end r.outside (record over { slow = slow }) test.order e)) c.is_slow-slow.ensures))
    c.on_end-in-None.ensures.takes

pub returns-in-None-clause-tells : goal.returns-in-None-clause-tells
returns-in-None-clause-tells c =
    let r = run_state c.args.self.now in
    let e = test_end_view [] c.args.end c.args.details in
    let test = running_test_view c.args.test in
    let over = running_over r e test c.args.attempts in
    on_ok_weaker c.on_end-in-None.result (λ tells.
    end-noted r.outside _ (map note_view c.args.notes.now.items) _ e _ over c.event_place-event.result tells
    (ap (λ slow. record over { slow = slow }) c.is_slow-slow.ensures) (ap (suite_at r) c.in-None.ensures))
    c.on_end-in-None.ensures.tells
