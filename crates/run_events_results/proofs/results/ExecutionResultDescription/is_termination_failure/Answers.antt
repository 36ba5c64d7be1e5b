use Rattle.std.proofs.Common.{rules}
use Rattle.run_events_results.proofs.results.ExecutionResultDescription.is_termination_failure.Goals as goal

pub returns-in-Fail-Abort-default : goal.returns-in-Fail-Abort-default
returns-in-Fail-Abort-default c = search rules
