use Rattle.std.proofs.Common.{◌≡◌, map, take}
use Rattle.std.specs.List.{filter_map}
use Rattle.run_events.specs.Counters.{unit_view}
use Rattle.uses.specs.Runner.{told_unit}
use Rattle.uses.proofs.runner.finished_units.Given as goal

-- the finished units of the events so far
abbrev pub invariant-loop-event : goal.invariant-loop-event
invariant-loop-event l = map unit_view l.units.items ≡ filter_map told_unit (take l.event-index l.events)
