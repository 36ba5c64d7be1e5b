use Rattle.std.proofs.Common.{rules}
use Rattle.run_events_results.proofs.results.ExecutionResult.is_success.Goals as goal

pub returns-in-Pass : goal.returns-in-Pass
returns-in-Pass c = search rules
