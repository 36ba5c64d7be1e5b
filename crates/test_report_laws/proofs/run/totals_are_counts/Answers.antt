use Rattle.test_report_laws.proofs.Tallies.{totals-count}
use Rattle.test_report_laws.proofs.run.totals_are_counts.Goals as goal

pub returns : goal.returns
returns c = totals-count
