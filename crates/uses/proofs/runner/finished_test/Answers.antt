use Rattle.std.proofs.Common.{◌+◌, ap, refl, rules}
use Rattle.uses.proofs.Lists.{last_pushed}
use Rattle.uses.proofs.RunnerLemmas.{added_some, all_numbers, all_statuses, view_added}
use Rattle.uses.proofs.runner.finished_test.Goals as goal

pub new-requires : goal.new-requires
new-requires c = search (rules, added_some c.in_ok-push_status.ensures)

pub returns-clause-view : goal.returns-clause-view
returns-clause-view c =
    view_added c.new.result _ _ c.in_ok-push_status.ensures c.new.ensures.attempts (ap (λ n. n + 1) c.in_ok-retry_data.ensures.statuses.count)
    c.new.ensures.flaky_result

pub returns-clause-stderr : goal.returns-clause-stderr
returns-clause-stderr c =
    let added = c.in_ok-push_status.ensures in
    rw (c.new.ensures.attempts, added.items, last_pushed _ added.status, added.output) refl

pub returns-clause-outputs : goal.returns-clause-outputs
returns-clause-outputs c =
    let all = all_statuses c.new.result c.args.earlier.now c.in_ok-retry_data.ensures.statuses c.in_ok-push_status.ensures c.new.ensures.attempts
    c.in_ok-retry_data.ensures.next in
    all.outputs

pub returns-clause-results : goal.returns-clause-results
returns-clause-results c =
    let all = all_statuses c.new.result c.args.earlier.now c.in_ok-retry_data.ensures.statuses c.in_ok-push_status.ensures c.new.ensures.attempts
    c.in_ok-retry_data.ensures.next in
    all.results

pub returns-clause-slow : goal.returns-clause-slow
returns-clause-slow c =
    let all = all_statuses c.new.result c.args.earlier.now c.in_ok-retry_data.ensures.statuses c.in_ok-push_status.ensures c.new.ensures.attempts
    c.in_ok-retry_data.ensures.next in
    all.slow

pub returns-clause-numbers : goal.returns-clause-numbers
returns-clause-numbers c = λ few.
    let all = all_statuses c.new.result c.args.earlier.now c.in_ok-retry_data.ensures.statuses c.in_ok-push_status.ensures c.new.ensures.attempts
    c.in_ok-retry_data.ensures.next in
    all_numbers c.args.earlier.now c.args.last _ _ all few (c.total_after.ensures few)
