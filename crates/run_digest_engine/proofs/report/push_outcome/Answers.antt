use Rattle.run_digest_engine.specs.Report.{outcome_line}
use Rattle.run_digest_engine.proofs.Reports.{reports_many}
use Rattle.run_digest_engine.proofs.report.push_outcome.Goals as goal

pub returns-in_ok-writeln : goal.returns-in_ok-writeln
unfolding outcome_line
returns-in_ok-writeln c =
    rw (c.in_ok-writeln.ensures.bytes, c.requires, c.outcome_text-words.ensures) (reports_many c.args.runs.now c.args.outcome c.if-runs-ne1.true)
