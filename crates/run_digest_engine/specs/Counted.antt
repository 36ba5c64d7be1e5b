-- The statistics of the runs that lines describe.
use Rattle.std.specs.Prelude.{◌≡◌, ℕ, List, [], ◌∷◌, ◌++◌, map, All}
use Rattle.std.specs.List.{concat}
use Rattle.run_events_stats.specs.Counters.{ScriptCountersFit, ScriptUnit, TestCountersFit, TestUnit, stats_of, with_script, with_test}
use Rattle.run_events_stats.specs.Summary.{FailuresFit}
use Rattle.run_events_stats.specs.declared.outcome.run_outcome.RunOutcome.{RunOutcome}
use Rattle.run_events_stats.specs.declared.stats.RunStats.{RunStats}
use Rattle.run_digest_engine.specs.Answer.{NoBadLine}
use Rattle.run_digest_engine.specs.Reader.{EntryView, SubRunEntry, UnitEntry}
use Rattle.run_digest_engine.specs.Reading.{IsReading, Run}
use Rattle.run_digest_engine.specs.Report.{outcome_line, report_of, run_stats}

-- the statistics are those of the runs, in order, and the sums of failures of each run fit `usize`
pub record AreStats (stats : List RunStats) (runs : List Run) : Type 0 where
  pub is : stats ≡ map run_stats runs
  pub fit : All FailuresFit stats

-- no line is bad, and these are the statistics of the runs that the lines describe
pub record AreCounted (lines : List (List ℕ)) (stats : List RunStats) : Type 0 where
  pub good : NoBadLine lines
  pub runs : List Run
  pub reading : IsReading lines runs
  pub stats_are : AreStats stats runs

-- the counters of the current run have room for the unit of a line
abbrev pub HasRoom : RunStats → EntryView → Type 0
HasRoom stats (UnitEntry (ScriptUnit r)) = ScriptCountersFit (with_script stats r)
HasRoom stats (UnitEntry (TestUnit t)) = TestCountersFit (with_test stats t)
HasRoom stats (SubRunEntry start) = Unit {0}

-- a line was counted: its unit is one more unit of the current run, or the current run is over and the next one begins
abbrev pub Counts : EntryView → List RunStats → RunStats → List RunStats → RunStats → Type 0
Counts (UnitEntry (ScriptUnit r)) runs stats after next = (after ≡ runs) × (next ≡ with_script stats r)
Counts (UnitEntry (TestUnit t)) runs stats after next = (after ≡ runs) × (next ≡ with_test stats t)
Counts (SubRunEntry start) runs stats after next = (after ≡ runs ++ stats ∷ []) × (next ≡ stats_of [] start)

-- the reports of statistics, and unless there is exactly one run, the line of their outcome
abbrev pub stats_reports : List RunStats → RunOutcome → List ℕ
stats_reports (stats ∷ []) o = report_of stats
stats_reports stats o = concat (map report_of stats) ++ outcome_line o
