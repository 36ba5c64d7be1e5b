use Rattle.test_report_laws.proofs.Outcomes.{outcome-means}
use Rattle.test_report_laws.proofs.run.outcome_means.Goals as goal

pub returns : goal.returns
returns c = outcome-means
