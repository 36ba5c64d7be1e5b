use Rattle.std.proofs.Common.{map}
use Rattle.run_digest_engine.specs.RunReports.{run_view}
use Rattle.run_digest_engine.proofs.Reports.{agrees, reports_runs}
use Rattle.run_digest_engine.proofs.runs.report_of_runs.Goals as goal

pub returns-clause-text : goal.returns-clause-text
returns-clause-text c =
    reports_runs c.args.runs.now c.in_ok-all.all.items c.of_runs.result _ c.in_ok-all.ensures c.of_runs.ensures
    (rw c.as_slice-2.ensures.value at c.in_ok-push_outcome.ensures)

pub returns-clause-count : goal.returns-clause-count
returns-clause-count c = agrees (map run_view c.args.runs.now) _ (returns-clause-text c)
