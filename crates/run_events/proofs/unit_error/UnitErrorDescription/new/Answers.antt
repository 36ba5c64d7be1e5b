use Rattle.std.proofs.Common.{rules}
use Rattle.run_events.proofs.unit_error.UnitErrorDescription.new.Goals as goal

pub returns-after-failed_test-clause-errors : goal.returns-after-failed_test-clause-errors
returns-after-failed_test-clause-errors c = search rules

pub returns-after-failed_test-clause-child_process : goal.returns-after-failed_test-clause-child_process
returns-after-failed_test-clause-child_process c = search rules
