use Rattle.test_report_laws.proofs.ToldFailures.{failure-told, no-failure, one-failure}
use Rattle.test_report_laws.proofs.run.one_failure_of_line.Goals as goal

pub returns-clause-lines : goal.returns-clause-lines
returns-clause-lines c = one-failure

pub returns-clause-file_ends : goal.returns-clause-file_ends
returns-clause-file_ends c = no-failure

pub returns-clause-told : goal.returns-clause-told
returns-clause-told c = failure-told
