use Rattle.std.proofs.Common.{rules}
use Rattle.run_events_results.proofs.config.TestOutputDisplay.is_final.Goals as goal

pub returns-in-Immediate : goal.returns-in-Immediate
returns-in-Immediate c = search rules
