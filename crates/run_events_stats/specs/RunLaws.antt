-- Laws of the counters over a whole list of finished units.
use Rattle.std.specs.Prelude.{◌≡◌, ◌≤◌, ◌<◌, Bool, not, List, length, None}
use Rattle.std.specs.List.{AllPass}
use Rattle.run_events_stats.specs.Counters.{UnitView, script_passed, scripts_of, sum_of, tests_of}
use Rattle.run_events_results.specs.Level.{has_level_fail}
use Rattle.run_events_results.specs.ViewedTest.{ViewedTest}
use Rattle.run_events_stats.specs.declared.stats.RunStart.{RunStart}
use Rattle.run_events_stats.specs.declared.stats.RunStats.{RunStats}

-- the counters alone, without what is known when a run starts
abbrev pub counters_alone : RunStats → RunStats
counters_alone s = record s { initial_run_count = 0; setup_scripts_initial_count = 0; skipped = 0; cancel_reason = None }

-- each counter of the whole is the sum of that counter in both parts
abbrev pub IsSum : RunStats → RunStats → RunStats → Type 0
IsSum a b whole = counters_alone whole ≡ sum_of (counters_alone a) (counters_alone b)

-- whether a test's level is not `Fail`
abbrev pub has_no_failure : ViewedTest → Bool
has_no_failure t = not (has_level_fail t)

-- Every script passed, or leaked and that counts as passed. No test has the level `Fail`. The numbers of scripts and of
-- tests reach their initial counts, and there is at least one test.
pub record RunSucceeds (units : List UnitView) (start : RunStart) : Type 0 where
  pub scripts_passed : AllPass script_passed (scripts_of units)
  pub scripts_ran : start.setup_scripts_initial_count ≤ length (scripts_of units)
  pub no_failure : AllPass has_no_failure (tests_of units)
  pub tests_ran : start.initial_run_count ≤ length (tests_of units)
  pub some_test : 0 < length (tests_of units)
