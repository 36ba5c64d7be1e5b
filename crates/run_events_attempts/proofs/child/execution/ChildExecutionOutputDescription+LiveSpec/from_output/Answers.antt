use Rattle.std.proofs.Common.{rules}
use Rattle.run_events_attempts.proofs.child.execution.ChildExecutionOutputDescription+LiveSpec.from_output.Goals as goal

pub returns-in-Err-clause-name : goal.returns-in-Err-clause-name
returns-in-Err-clause-name c = search rules

pub returns-in-Err-clause-output : goal.returns-in-Err-clause-output
returns-in-Err-clause-output c = search rules
