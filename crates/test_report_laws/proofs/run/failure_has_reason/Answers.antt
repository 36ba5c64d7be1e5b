use Rattle.test_report_laws.proofs.NotRun.{not-run-named}
use Rattle.test_report_laws.proofs.RunReasons.{failure-reason}
use Rattle.test_report_laws.proofs.run.failure_has_reason.Goals as goal

pub returns-clause-named : goal.returns-clause-named
returns-clause-named c = not-run-named

pub returns-clause-reason : goal.returns-clause-reason
returns-clause-reason c = failure-reason
