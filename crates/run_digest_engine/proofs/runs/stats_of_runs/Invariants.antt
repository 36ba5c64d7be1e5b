use Rattle.std.proofs.Common.{map, take}
use Rattle.run_digest_engine.specs.Counted.{AreStats}
use Rattle.run_digest_engine.specs.RunReports.{run_view}
use Rattle.run_digest_engine.proofs.runs.stats_of_runs.Given as goal

-- the statistics of the runs so far
abbrev pub invariant-loop-run : goal.invariant-loop-run
invariant-loop-run l = AreStats l.all.items (map run_view (take l.run-index l.runs))
