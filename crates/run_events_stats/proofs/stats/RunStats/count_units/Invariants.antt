use Rattle.std.proofs.Common.{◌≡◌, map, take}
use Rattle.run_events_stats.specs.Counters.{stats_of, unit_view}
use Rattle.run_events_stats.proofs.stats.RunStats.count_units.Given as goal

-- the statistics so far are those of the units so far
abbrev pub invariant-loop-unit : goal.invariant-loop-unit
invariant-loop-unit l = l.stats ≡ stats_of (map unit_view (take l.unit-index l.units)) l.fn.start
