use Rattle.std.proofs.Common.{◌≡◌, ◌∙◌, map, subst}
use Rattle.std.proofs.lemmas.List.{take_all}
use Rattle.std.specs.List.{filter_map}
use Rattle.run_events.specs.Counters.{unit_view}
use Rattle.uses.specs.Runner.{told_unit}
use Rattle.uses.proofs.Lists.{filter_map_more}
use Rattle.uses.proofs.RunnerLemmas.{lent_more, lent_same}
use Rattle.uses.proofs.runner.finished_units.Goals as goal
use Rattle.uses.proofs.runner.finished_units.Goals.{in-Some+in_ok-push, in_default}

pub loop-event-preserved : goal.loop-event-preserved
loop-event-preserved c =
    let more = filter_map_more told_unit c.args.events.now c.loop-event.event-index c.event-item.result c.loop-event-test.true c.event-item.is in
    elim c.match-finished_unit.branch [
      | in-Some+in_ok-push w ↦
          rw (w.units-is, w.in_ok-push.ensures.items)
          (lent_more c.loop-event.units.items w.in-Some.unit _ _ _ c.loop-event.invariant w.in-Some.ensures more)
      | in_default w ↦ rw w.units-is (c.loop-event.invariant ∙ lent_same _ _ _ w.in_default.ensures more)
    ]

pub returns : goal.returns
returns c =
    subst (λ seen. map unit_view c.loop-event.units.items ≡ filter_map told_unit seen)
    (take_all c.loop-event.event-index c.args.events.now c.loop-event-test.false) c.loop-event.invariant
