use Rattle.std.proofs.Common.{rules}
use Rattle.run_events_attempts.proofs.child.error_list.ErrorList.new.Goals as goal

pub returns-else-is_empty-clause-list : goal.returns-else-is_empty-clause-list
returns-else-is_empty-clause-list g c = search rules
