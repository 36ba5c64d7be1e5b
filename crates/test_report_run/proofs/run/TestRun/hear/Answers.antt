-- A suite has an event.
use Rattle.std.proofs.Common.{◌<◌, ◌∙◌, ap, arith, length, refl}
use Rattle.std.proofs.lemmas.Grind.{common_steps}
use Rattle.test_report_run.specs.Run.{place_of_number, run_state}
use Rattle.test_report_run.specs.Suite.{state_of}
use Rattle.test_report_run.specs.declared.others.EventPlace.{EventPlace}
use Rattle.test_report_run.proofs.OpenSteps.{key-kept, number-kept}
use Rattle.test_report_run.proofs.Runs.{with_suite-at}
use Rattle.test_report_run.proofs.run.TestRun.hear.Goals as goal

pub invariant_of-self : goal.invariant_of-self
invariant_of-self c =
    let o = c.args.self.now.suites in
    let old = c.index_mut.result.now in
    let inside = c.deref_mut.result.now in
    record {
      numbered = number-kept o.list.items c.in-Some.at old inside (record inside { last_event = c.event_place-place.result })
          c.index_mut.ensures.value c.deref_mut.ensures.value refl ∙ o.numbered;
      rising = o.rising;
      below = o.below;
      keyed = rw (key-kept o.list.items c.in-Some.at old inside (record inside { last_event = c.event_place-place.result })
          c.index_mut.ensures.value c.deref_mut.ensures.value refl) o.keyed;
    }

pub returns-in-Some : goal.returns-in-Some
returns-in-Some c =
    let r = run_state c.args.self.now in
    let inside : c.in-Some.at < length c.args.self.now.suites.list.items = grind (arith, common_steps) in
    with_suite-at r _ c.args.self.now.suites.list.items c.in-Some.at (place_of_number r c.args.number) c.index_mut.result.now c.deref_mut.result.now
    (record c.deref_mut.result.now { last_event = c.event_place-place.result }) (λ s. s) refl refl inside c.in-Some.ensures c.index_mut.ensures.value
    c.deref_mut.ensures.value (ap (λ (e : EventPlace). record (state_of c.deref_mut.result.now) { last_event = e }) c.event_place-place.ensures)
