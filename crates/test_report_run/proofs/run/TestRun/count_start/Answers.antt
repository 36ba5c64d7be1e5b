-- A test counts in the suite that it belongs to.
use Rattle.std.proofs.Common.{◌<◌, ◌∙◌, ap, arith, length, refl, sym}
use Rattle.std.proofs.lemmas.Grind.{common_steps}
use Rattle.test_report_run.specs.Run.{run_state, suite_place}
use Rattle.test_report_run.specs.Suite.{SuiteState, state_of, with_start}
use Rattle.test_report_run.specs.declared.others.EventPlace.{EventPlace}
use Rattle.test_report_run.proofs.OpenSteps.{key-kept, number-kept}
use Rattle.test_report_run.proofs.Runs.{suite-at, with_outside, with_suite-at}
use Rattle.test_report_run.proofs.run.TestRun.count_start.Goals as goal

pub invariant_of-self : goal.invariant_of-self
invariant_of-self c =
    let o = c.args.self.now.suites in
    let old = c.index_mut.result.now in
    let inside = c.deref_mut-suite.result.now in
    let kept = c.on_start.ensures in
    record {
      numbered = number-kept o.list.items c.in-Some.at old inside c.on_start.new.self
          c.index_mut.ensures.value c.deref_mut-suite.ensures.value kept.number ∙ o.numbered;
      rising = o.rising;
      below = o.below;
      keyed = rw (key-kept o.list.items c.in-Some.at old inside c.on_start.new.self
          c.index_mut.ensures.value c.deref_mut-suite.ensures.value kept.key) o.keyed;
    }

pub returns-in_ok-on_start-in-Some-clause-counts : goal.returns-in_ok-on_start-in-Some-clause-counts
returns-in_ok-on_start-in-Some-clause-counts c =
    let r = run_state c.args.self.now in
    let s = state_of c.deref_mut-suite.result.now in
    let inside : c.in-Some.at < length c.args.self.now.suites.list.items = grind (arith, common_steps) in
    with_suite-at r _ c.args.self.now.suites.list.items c.in-Some.at (suite_place r c.args.name.now) c.index_mut.result.now c.deref_mut-suite.result.now
    c.on_start.new.self (λ s. with_start s c.args.name.now) refl refl inside c.in-Some.ensures c.index_mut.ensures.value c.deref_mut-suite.ensures.value
    (c.in_ok-on_start-in-Some.ensures.takes ∙ ap (λ (e : EventPlace). record (with_start s c.args.name.now) { last_event = e }) c.event_place-place.ensures)

pub returns-in_ok-on_start-in-Some-clause-number : goal.returns-in_ok-on_start-in-Some-clause-number
returns-in_ok-on_start-in-Some-clause-number c =
    let r = run_state c.args.self.now in
    let inside : c.in-Some.at < length c.args.self.now.suites.list.items = grind (arith, common_steps) in
    ap (λ (s : SuiteState). s.number) (ap state_of c.deref_mut-suite.ensures.value
    ∙ sym (suite-at r c.args.self.now.suites.list.items c.in-Some.at (suite_place r c.args.name.now) c.index_mut.result.now refl inside c.in-Some.ensures
    c.index_mut.ensures.value))

pub returns-in_ok-on_start-in-None-clause-counts : goal.returns-in_ok-on_start-in-None-clause-counts
returns-in_ok-on_start-in-None-clause-counts c =
    let r = run_state c.args.self.now in
    with_outside r _ (suite_place r c.args.name.now) c.on_start-in-None.new.self (λ s. with_start s c.args.name.now) refl c.in-None.ensures
    (c.in_ok-on_start-in-None.ensures.takes
    ∙ ap (λ (e : EventPlace). record (with_start r.outside c.args.name.now) { last_event = e }) c.event_place-place.ensures)
