-- A stray end counts in the suite that its test would belong to.
use Rattle.std.proofs.Common.{◌≡◌, ◌∙◌, ◌++◌, ◌<◌, Bool, List, ℕ, ap, arith, length, map, refl, string_bytes, sym}
use Rattle.std.proofs.lemmas.Grind.{common_steps}
use Rattle.std.proofs.lemmas.Result.{on_ok_weaker}
use Rattle.test_report_events.specs.Event.{TestEndView, test_end_view}
use Rattle.test_report_run_notes.specs.Note.{NoteView, note_view}
use Rattle.test_report_run.specs.Ended.{after_stray, stray_notes}
use Rattle.test_report_run.specs.Others.{event_place}
use Rattle.test_report_run.specs.Run.{RunState, heard, is_long, run_state, stray_over, suite_at, suite_place}
use Rattle.test_report_run.specs.Suite.{OverView, SuiteState, named, state_of}
use Rattle.test_report_run.specs.declared.others.EventPlace.{EventPlace}
use Rattle.test_report_run.proofs.OpenSteps.{key-kept, number-kept}
use Rattle.test_report_run.proofs.Runs.{end_notes-after_event, heard-end, suite-at, with_outside, with_suite-at}
use Rattle.test_report_run.proofs.run.TestRun.count_stray.Goals as goal

-- what is known of the test
stray-over : (r : RunState) (e : TestEndView) (name : List ℕ) (slow : Bool) → name ≡ e.name → slow ≡ is_long r e.time
    → record (stray_over r e) { name = name; slow = slow } ≡ stray_over r e
stray-over r e name slow named long =
    ap (λ (n : List ℕ). record (stray_over r e) { name = n; slow = slow }) named ∙ ap (λ (w : Bool). record (stray_over r e) { slow = w }) long

-- its suite
stray-counted : (r : RunState) (s after : SuiteState) (e : TestEndView) (t : OverView) (event : EventPlace)
    → after ≡ after_stray (record s { last_event = event }) t e → event ≡ event_place r.others → t ≡ stray_over r e
    → after ≡ heard r (after_stray s (stray_over r e) e)
stray-counted r s after e t event takes last same =
    heard-end r (named s t.name) after t 0 e event takes last ∙ ap (λ (t : OverView). heard r (after_stray s t e)) same

-- its notes
stray-noted : (r : RunState) (s place : SuiteState) (notes after : List NoteView) (e : TestEndView) (t : OverView) (event : EventPlace)
    → after ≡ notes ++ stray_notes (record s { last_event = event }) t e → t ≡ stray_over r e → s ≡ place
    → after ≡ notes ++ stray_notes place (stray_over r e) e
stray-noted r s place notes after e t event tells same at =
    tells ∙ ap (λ (all : List NoteView). notes ++ all) (end_notes-after_event (named s t.name) event t e)
    ∙ ap (λ (t : OverView). notes ++ stray_notes s t e) same ∙ ap (λ (s : SuiteState). notes ++ stray_notes s (stray_over r e) e) at

pub invariant_of-self : goal.invariant_of-self
invariant_of-self c =
    let o = c.args.self.now.suites in
    let old = c.index_mut.result.now in
    let inside = c.deref_mut-suite.result.now in
    let kept = c.on_stray_end.ensures in
    record {
      numbered = number-kept o.list.items c.in-Some.at old inside c.on_stray_end.new.self
          c.index_mut.ensures.value c.deref_mut-suite.ensures.value kept.number ∙ o.numbered;
      rising = o.rising;
      below = o.below;
      keyed = rw (key-kept o.list.items c.in-Some.at old inside c.on_stray_end.new.self
          c.index_mut.ensures.value c.deref_mut-suite.ensures.value kept.key) o.keyed;
    }

pub returns-in-Some-clause-takes : goal.returns-in-Some-clause-takes
returns-in-Some-clause-takes c =
    let r = run_state c.args.self.now in
    let e = test_end_view c.args.name.now c.args.end c.args.details in
    let inside : c.in-Some.at < length c.args.self.now.suites.list.items = grind (arith, common_steps) in
    on_ok_weaker c.on_stray_end.result (λ takes.
    with_suite-at r _ c.args.self.now.suites.list.items c.in-Some.at (suite_place r c.args.name.now) c.index_mut.result.now c.deref_mut-suite.result.now
    c.on_stray_end.new.self (λ s. after_stray s (stray_over r e) e) refl refl inside c.in-Some.ensures c.index_mut.ensures.value c.deref_mut-suite.ensures.value
    (stray-counted r (state_of c.deref_mut-suite.result.now) _ e _ c.event_place-event.result takes c.event_place-event.ensures
    (stray-over r e (string_bytes c.in_ok-from_str.field-0) c.is_long-slow.result c.in_ok-from_str.ensures.ok c.is_long-slow.ensures)))
    c.on_stray_end.ensures.takes

pub returns-in-Some-clause-tells : goal.returns-in-Some-clause-tells
returns-in-Some-clause-tells c =
    let r = run_state c.args.self.now in
    let e = test_end_view c.args.name.now c.args.end c.args.details in
    let inside : c.in-Some.at < length c.args.self.now.suites.list.items = grind (arith, common_steps) in
    let place = suite-at r c.args.self.now.suites.list.items c.in-Some.at (suite_place r c.args.name.now) c.index_mut.result.now refl
    inside c.in-Some.ensures c.index_mut.ensures.value ∙ sym (ap state_of c.deref_mut-suite.ensures.value) in
    on_ok_weaker c.on_stray_end.result (λ tells.
    stray-noted r (state_of c.deref_mut-suite.result.now) _ (map note_view c.args.notes.now.items) _ e _ c.event_place-event.result tells
    (stray-over r e (string_bytes c.in_ok-from_str.field-0) c.is_long-slow.result c.in_ok-from_str.ensures.ok c.is_long-slow.ensures) (sym place))
    c.on_stray_end.ensures.tells

pub returns-in-None-clause-takes : goal.returns-in-None-clause-takes
returns-in-None-clause-takes c =
    let r = run_state c.args.self.now in
    let e = test_end_view c.args.name.now c.args.end c.args.details in
    on_ok_weaker c.on_stray_end-in-None.result (λ takes.
    with_outside r _ (suite_place r c.args.name.now) c.on_stray_end-in-None.new.self (λ s. after_stray s (stray_over r e) e) refl c.in-None.ensures
    (stray-counted r r.outside _ e _ c.event_place-event.result takes c.event_place-event.ensures
    (stray-over r e (string_bytes c.in_ok-from_str.field-0) c.is_long-slow.result c.in_ok-from_str.ensures.ok c.is_long-slow.ensures)))
    c.on_stray_end-in-None.ensures.takes

pub returns-in-None-clause-tells : goal.returns-in-None-clause-tells
returns-in-None-clause-tells c =
    let r = run_state c.args.self.now in
    let e = test_end_view c.args.name.now c.args.end c.args.details in
    on_ok_weaker c.on_stray_end-in-None.result (λ tells.
    stray-noted r r.outside _ (map note_view c.args.notes.now.items) _ e _ c.event_place-event.result tells
    (stray-over r e (string_bytes c.in_ok-from_str.field-0) c.is_long-slow.result c.in_ok-from_str.ensures.ok c.is_long-slow.ensures)
    (ap (suite_at r) c.in-None.ensures))
    c.on_stray_end-in-None.ensures.tells
