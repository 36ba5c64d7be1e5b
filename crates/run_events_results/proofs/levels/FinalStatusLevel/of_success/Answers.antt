use Rattle.std.proofs.Common.{rules}
use Rattle.run_events_results.proofs.levels.FinalStatusLevel.of_success.Goals as goal

pub returns-in-Pass : goal.returns-in-Pass
returns-in-Pass c = search rules

pub returns-in-Leak-Pass : goal.returns-in-Leak-Pass
returns-in-Leak-Pass c = search rules
