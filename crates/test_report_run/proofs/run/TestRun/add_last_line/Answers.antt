-- A suite of the run changes.
use Rattle.std.proofs.Common.{◌<◌, ◌∙◌, Some, ap, arith, length, refl}
use Rattle.std.proofs.lemmas.Grind.{common_steps}
use Rattle.std.proofs.lemmas.Result.{on_ok_weaker}
use Rattle.test_report_events.specs.Event.{suite_end_view}
use Rattle.test_report_run.specs.Run.{run_state}
use Rattle.test_report_run.specs.Suite.{state_of, with_line}
use Rattle.test_report_run.specs.declared.others.EventPlace.{EventPlace}
use Rattle.test_report_run.proofs.OpenSteps.{key-kept, number-kept}
use Rattle.test_report_run.proofs.Runs.{with_suite-at}
use Rattle.test_report_run.proofs.run.TestRun.add_last_line.Goals as goal

pub invariant_of-self : goal.invariant_of-self
invariant_of-self c =
    let o = c.args.self.now.suites in
    let old = c.index_mut.result.now in
    let inside = c.deref_mut-suite.result.now in
    let kept = c.on_last_line.ensures in
    record {
      numbered = number-kept o.list.items c.args.at old inside c.on_last_line.new.self
          c.index_mut.ensures.value c.deref_mut-suite.ensures.value kept.number ∙ o.numbered;
      rising = o.rising;
      below = o.below;
      keyed = rw (key-kept o.list.items c.args.at old inside c.on_last_line.new.self
          c.index_mut.ensures.value c.deref_mut-suite.ensures.value kept.key) o.keyed;
    }

pub returns-clause-takes : goal.returns-clause-takes
returns-clause-takes c =
    let e = suite_end_view c.args.end in
    let s = state_of c.deref_mut-suite.result.now in
    let inside : c.args.at < length c.args.self.now.suites.list.items = grind (arith, common_steps) in
    on_ok_weaker c.on_last_line.result (λ takes.
    with_suite-at (run_state c.args.self.now) _ c.args.self.now.suites.list.items c.args.at (Some c.args.at) c.index_mut.result.now
    c.deref_mut-suite.result.now c.on_last_line.new.self (λ s. with_line s e) refl refl inside refl c.index_mut.ensures.value
    c.deref_mut-suite.ensures.value (takes ∙ ap (λ (p : EventPlace). record (with_line s e) { last_event = p }) c.event_place-place.ensures))
    c.on_last_line.ensures.takes
