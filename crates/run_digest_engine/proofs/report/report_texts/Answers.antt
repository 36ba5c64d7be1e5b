use Rattle.std.proofs.Common.{sym, ap, ◌∙◌, take_all, map}
use Rattle.std.specs.List.{concat}
use Rattle.std.proofs.lemmas.List.{map_more}
use Rattle.std.proofs.lemmas.List.Elements.{All-get_or}
use Rattle.run_events_stats.specs.Summary.{FailuresFit, summary_of}
use Rattle.run_digest_engine.specs.Report.{report_of}
use Rattle.run_digest_engine.proofs.Reports.{reports_more}
use Rattle.run_digest_engine.proofs.report.report_texts.Goals as goal

pub push_report-requires-clause-fit : goal.push_report-requires-clause-fit
push_report-requires-clause-fit c = All-get_or FailuresFit c.args.runs.now _ _ c.loop-stats-test.true c.requires

pub loop-stats-preserved : goal.loop-stats-preserved
loop-stats-preserved c = record {
  text = rw (c.in_ok-push_report.ensures, c.loop-stats.invariant.text)
      (sym (reports_more c.args.runs.now c.loop-stats.stats-index _ c.loop-stats-test.true));
  summaries = rw (c.in_ok-push.ensures.items, c.loop-stats.invariant.summaries, c.summarize_final-summary.ensures)
      (sym (map_more summary_of c.args.runs.now c.loop-stats.stats-index _ c.loop-stats-test.true));
}

pub returns-clause-text : goal.returns-clause-text
returns-clause-text c =
    c.loop-stats.invariant.text ∙ ap (λ runs. concat (map report_of runs)) (take_all c.loop-stats.stats-index c.args.runs.now c.loop-stats-test.false)

pub returns-clause-summaries : goal.returns-clause-summaries
returns-clause-summaries c =
    c.loop-stats.invariant.summaries ∙ ap (map summary_of) (take_all c.loop-stats.stats-index c.args.runs.now c.loop-stats-test.false)
