use Rattle.std.proofs.Common.{rules}
use Rattle.run_events.proofs.EmptyLists.{listed}
use Rattle.run_events.proofs.unit_error.UnitErrorDescription.child_process_error_list.Goals as goal

pub returns-clause-list : goal.returns-clause-list
returns-clause-list c =
    listed _ _ _ _ _ c.new.ensures.empty c.new.ensures.list c.executing_message.ensures (search rules)
