use Rattle.std.proofs.Common.{rules}
use Rattle.run_events_stats.proofs.outcome.run_outcome.RunOutcome.from_final_stats.Goals as goal

pub returns-in-Cancelled : goal.returns-in-Cancelled
returns-in-Cancelled c = search rules
