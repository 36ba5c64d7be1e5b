-- A suite of the run changes.
use Rattle.std.proofs.Common.{◌<◌, ◌∙◌, Some, ap, arith, length, refl}
use Rattle.std.proofs.lemmas.Grind.{common_steps}
use Rattle.std.proofs.lemmas.Result.{on_ok_weaker}
use Rattle.test_report_run.specs.Run.{run_state}
use Rattle.test_report_run.specs.Suite.{joined_by, state_of}
use Rattle.test_report_run.specs.declared.others.EventPlace.{EventPlace}
use Rattle.test_report_run.proofs.OpenSteps.{key-kept, number-kept}
use Rattle.test_report_run.proofs.Runs.{with_suite-at}
use Rattle.test_report_run.proofs.run.TestRun.join.Goals as goal

pub invariant_of-self : goal.invariant_of-self
invariant_of-self c =
    let o = c.args.self.now.suites in
    let old = c.index_mut.result.now in
    let inside = c.deref_mut-suite.result.now in
    let kept = c.join.ensures in
    record {
      numbered = number-kept o.list.items c.args.at old inside c.join.new.self
          c.index_mut.ensures.value c.deref_mut-suite.ensures.value kept.number ∙ o.numbered;
      rising = o.rising;
      below = o.below;
      keyed = rw (key-kept o.list.items c.args.at old inside c.join.new.self
          c.index_mut.ensures.value c.deref_mut-suite.ensures.value kept.key) o.keyed;
    }

pub returns : goal.returns
returns c =
    let s = state_of c.deref_mut-suite.result.now in
    let inside : c.args.at < length c.args.self.now.suites.list.items = grind (arith, common_steps) in
    on_ok_weaker c.join.result (λ takes.
    with_suite-at (run_state c.args.self.now) _ c.args.self.now.suites.list.items c.args.at (Some c.args.at) c.index_mut.result.now
    c.deref_mut-suite.result.now c.join.new.self (λ s. joined_by s c.args.test_count) refl refl inside refl c.index_mut.ensures.value
    c.deref_mut-suite.ensures.value (takes ∙ ap (λ (e : EventPlace). record (joined_by s c.args.test_count) { last_event = e }) c.event_place-place.ensures))
    c.join.ensures.takes
