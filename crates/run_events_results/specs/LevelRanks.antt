-- The orders of levels as numbers.
use Rattle.std.specs.Prelude.{ℕ}
use Rattle.run_events_results.specs.declared.levels.FinalStatusLevel.{FinalStatusLevel}
use Rattle.run_events_results.specs.declared.levels.FinalStatusLevel.TheVariants as final
use Rattle.run_events_results.specs.declared.levels.StatusLevel.{StatusLevel}
use Rattle.run_events_results.specs.declared.levels.StatusLevel.TheVariants as level

-- the position of a level in its declaration, from 0
abbrev pub level_rank : StatusLevel → ℕ
level_rank level.None = 0
level_rank level.Fail = 1
level_rank level.Retry = 2
level_rank level.Slow = 3
level_rank level.Leak = 4
level_rank level.Pass = 5
level_rank level.Skip = 6
level_rank level.All = 7

-- the position of a final level in its declaration, from 0
abbrev pub final_level_rank : FinalStatusLevel → ℕ
final_level_rank final.None = 0
final_level_rank final.Fail = 1
final_level_rank final.Flaky = 2
final_level_rank final.Slow = 3
final_level_rank final.Skip = 4
final_level_rank final.Leak = 5
final_level_rank final.Pass = 6
final_level_rank final.All = 7
