use Rattle.std.proofs.Common.{ap, sym, ◌∙◌, arith}
use Rattle.run_events_stats.specs.Counters.{UnitView, ScriptUnit, TestUnit, unit_view}
use Rattle.run_events_stats.proofs.Counting.{stats-more, unit-fits}
use Rattle.run_events_stats.proofs.stats.RunStats.count_units.Goals as goal
use Rattle.run_events_stats.proofs.stats.RunStats.count_units.Goals.{in-Script, in-Test}

pub raise_for_script-requires : goal.raise_for_script-requires
raise_for_script-requires c =
    (unit-fits _ _ _ c.args.start _ (ScriptUnit _) c.loop-unit-test.true c.unit-item.is c.loop-unit.invariant (ap unit_view c.in-Script.is) (omega arith)).1

pub raise_for_test-requires : goal.raise_for_test-requires
raise_for_test-requires c =
    let is = ap unit_view c.in-Test.is ∙ ap TestUnit (sym c.view.ensures) in
    (unit-fits _ _ _ c.args.start _ (TestUnit _) c.loop-unit-test.true c.unit-item.is c.loop-unit.invariant is (omega arith)).0

pub loop-unit-preserved : goal.loop-unit-preserved
loop-unit-preserved c =
    let more = λ (v : UnitView). stats-more _ _ _ c.args.start c.loop-unit.stats v c.loop-unit-test.true c.unit-item.is c.loop-unit.invariant in
    elim c.match-unit.branch [
      | in-Script w ↦ w.stats-is ∙ w.raise_for_script.ensures ∙ more (ScriptUnit _) (ap unit_view w.in-Script.is)
      | in-Test w ↦ w.stats-is ∙ w.raise_for_test.ensures ∙ more (TestUnit _) (ap unit_view w.in-Test.is ∙ ap TestUnit (sym w.view.ensures))
    ]
