use Rattle.std.proofs.Common.{rules}
use Rattle.run_events_attempts.proofs.attempts.description.ExecutionDescription.is_consistent.Goals as goal

pub returns-in-Success-clause-exact : goal.returns-in-Success-clause-exact
returns-in-Success-clause-exact g c = search rules
