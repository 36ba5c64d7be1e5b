use Rattle.std.proofs.Common.{rules, true≢false, sym}
use Rattle.run_events.specs.UnitErrors.{child_process_errors, exec_fail_errors}
use Rattle.run_events.proofs.EmptyLists.{left_is_empty, listed, right_is_empty}
use Rattle.run_events.proofs.unit_error.UnitErrorDescription.all_error_list.Goals as goal

pub returns-in_err-push_exec_fail-clause-empty : goal.returns-in_err-push_exec_fail-clause-empty
returns-in_err-push_exec_fail-clause-empty c none = let d = c.args.self.now in
    absurd (true≢false (sym (c.in_err-push_exec_fail.ensures.empty (left_is_empty (exec_fail_errors d) (child_process_errors d) none))))

pub returns-in_err-push_child_process-clause-empty : goal.returns-in_err-push_child_process-clause-empty
returns-in_err-push_child_process-clause-empty c none = let d = c.args.self.now in
    absurd (true≢false (sym (c.in_err-push_child_process.ensures.empty (right_is_empty (exec_fail_errors d) (child_process_errors d) none))))

pub returns-clause-list : goal.returns-clause-list
returns-clause-list c = listed _ _ _ _ _ c.new.ensures.empty c.new.ensures.list c.executing_message.ensures (search rules)
