use Rattle.std.proofs.Common.{rules}
use Rattle.uses.proofs.RunnerLemmas.{added_some, view_added}
use Rattle.uses.proofs.of_run_events.finished_at_first.Goals as goal

pub new-requires : goal.new-requires
new-requires c = search (rules, added_some c.in_ok-push_status.ensures)

pub returns : goal.returns
returns c = view_added c.new.result _ _ c.in_ok-push_status.ensures c.new.ensures.attempts (search rules) c.new.ensures.flaky_result
