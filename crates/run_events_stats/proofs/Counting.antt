-- The statistics of a list of finished units, one unit at a time.
use Rattle.std.proofs.Common.{◌≡◌, ℕ, ◌+◌, ◌<◌, ◌^◌, List, [], ◌∷◌, ◌++◌, length, get_or, take, Bool, sym, arith, rules, length-append, length-take}
use Rattle.std.specs.Prelude.{map, Option}
use Rattle.std.specs.List.{filter_map}
use Rattle.std.proofs.lemmas.List.{append-nil, length-map, map_more}
use Rattle.std.proofs.lemmas.List.Elements.{filter_map-append}
use Rattle.run_events_stats.specs.Counters.{UnitView, ScriptUnit, TestUnit, unit_view, count_of, stats_of, with_test, with_script, TestCountersFit, ScriptCountersFit}
use Rattle.run_events_results.specs.ViewedTest.{ViewedTest}
use Rattle.run_events_results.specs.declared.results.ExecutionResultDescription.{ExecutionResultDescription}
use Rattle.run_events_stats.specs.declared.stats.FinishedUnit.{FinishedUnit}
use Rattle.run_events_stats.specs.declared.stats.RunStart.{RunStart}
use Rattle.run_events_stats.specs.declared.stats.RunStats.{RunStats}
use Rattle.run_events_stats.proofs.Counts.{count_of-push, count_of-le, length-filter_map-le}

-- one more unit at the end, which is a test
pub stats_of-test : (us : List UnitView) (t : ViewedTest) (start : RunStart) → stats_of (us ++ TestUnit t ∷ []) start ≡ with_test (stats_of us start) t
stats_of-test us t start = simp (filter_map-append, append-nil, length-append, count_of-push)

-- one more unit at the end, which is a script
pub stats_of-script : (us : List UnitView) (r : ExecutionResultDescription) (start : RunStart)
    → stats_of (us ++ ScriptUnit r ∷ []) start ≡ with_script (stats_of us start) r
stats_of-script us r start = simp (filter_map-append, append-nil, length-append, count_of-push)

-- the statistics after one more unit
abbrev pub with_unit : RunStats → UnitView → RunStats
with_unit s (ScriptUnit r) = with_script s r
with_unit s (TestUnit t) = with_test s t

stats_of-unit : (us : List UnitView) (v : UnitView) (start : RunStart) → stats_of (us ++ v ∷ []) start ≡ with_unit (stats_of us start) v
stats_of-unit us (ScriptUnit r) start = stats_of-script us r start
stats_of-unit us (TestUnit t) start = stats_of-test us t start

-- the statistics of the units so far, and of one more unit
pub stats-more : (us : List FinishedUnit) (i : ℕ) (u : FinishedUnit) (start : RunStart) (s : RunStats) (v : UnitView) → i < length us → u ≡ get_or us i u
    → s ≡ stats_of (map unit_view (take i us)) start → unit_view u ≡ v → with_unit s v ≡ stats_of (map unit_view (take (i + 1) us)) start
stats-more us i u start s v within is_at so_far is =
    rw (so_far, ← is, map_more unit_view us i u within, ← is_at) (sym (stats_of-unit (map unit_view (take i us)) (unit_view u) start))

-- a count over a part of a list whose count fits
count-fits : {X Y : Type 0} (h : X → Option Y) (p : Y → Bool) (xs : List X) → length xs < 2 ^ 64 → count_of p (filter_map h xs) < 2 ^ 64
count-fits h p xs short = omega (arith, count_of-le p (filter_map h xs), length-filter_map-le h xs)

length-fits : {X Y : Type 0} (h : X → Option Y) (xs : List X) → length xs < 2 ^ 64 → length (filter_map h xs) < 2 ^ 64
length-fits h xs short = omega (arith, length-filter_map-le h xs)

pub tests-fit : (us : List UnitView) (start : RunStart) → length us < 2 ^ 64 → TestCountersFit (stats_of us start)
tests-fit us start short = search (rules, count-fits, length-fits)

pub scripts-fit : (us : List UnitView) (start : RunStart) → length us < 2 ^ 64 → ScriptCountersFit (stats_of us start)
scripts-fit us start short = search (rules, count-fits, length-fits)

-- the counters have room for one more unit of the list
pub unit-fits : (us : List FinishedUnit) (i : ℕ) (u : FinishedUnit) (start : RunStart) (s : RunStats) (v : UnitView) → i < length us → u ≡ get_or us i u
    → s ≡ stats_of (map unit_view (take i us)) start → unit_view u ≡ v → length us < 2 ^ 64
    → TestCountersFit (with_unit s v) × ScriptCountersFit (with_unit s v)
unit-fits us i u start s v within is_at so_far is short =
    let few : length (map unit_view (take (i + 1) us)) < 2 ^ 64 = simp (length-map, length-take) (omega arith) in
    rw (stats-more us i u start s v within is_at so_far is) (tests-fit _ start few, scripts-fit _ start few)
