use Rattle.std.proofs.Common.{◌≡◌, map, take}
use Rattle.std.specs.List.{concat}
use Rattle.std.specs.Prelude.{string_bytes}
use Rattle.run_events_stats.specs.Summary.{summary_of}
use Rattle.run_digest_engine.specs.Report.{report_of}
use Rattle.run_digest_engine.proofs.report.report_texts.Given as goal

-- the reports and the summaries of the runs so far
abbrev pub invariant-loop-stats : goal.invariant-loop-stats
invariant-loop-stats l = record {
  text : string_bytes l.text ≡ concat (map report_of (take l.stats-index l.runs));
  summaries : l.summaries.items ≡ map summary_of (take l.stats-index l.runs);
}
