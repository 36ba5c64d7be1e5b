use Rattle.std.proofs.Common.{rules}
use Rattle.run_events_attempts.proofs.child.output.ChildOutputDescription.is_loaded.Goals as goal

pub returns-in-NotLoaded : goal.returns-in-NotLoaded
returns-in-NotLoaded c = search rules
