-- The notes of a suite that ends early, and its numbers.
use Rattle.std.proofs.Common.{arith, sym}
use Rattle.std.proofs.lemmas.List.{length-map}
use Rattle.test_report_run.specs.Others.{others_view}
use Rattle.test_report_run.specs.Over.{early_end_of}
use Rattle.test_report_run.specs.Running.{running_test_view, running_view}
use Rattle.test_report_run.specs.Suite.{state_of}
use Rattle.test_report_run.proofs.Ends.{early-notes}
use Rattle.test_report_run.proofs.suite.Suite.end_early.Goals as goal

pub returns : goal.returns
returns c =
    let crashed = c.in_ok-crashed.crashed in
    let stopped = c.in_ok-crashed.stopped in
    let parts = c.in_ok-crashed.ensures in
    let all = c.in_ok-crash_left.ensures in
    let flaky = c.in_ok-release_flaky.ensures in
    early-notes (others_view c.args.others.now) (early_end_of c.args.how.now) (state_of c.args.self.now) (state_of c.crash_left.new.self)
    (state_of c.release_flaky.new.self) (running_view c.args.left.items) (running_view crashed.items)
    (running_view stopped.items) _ _ _ _ _ _ _ _ _ parts.crashed parts.stopped (sym (length-map crashed.items running_test_view))
    (grind (arith, c.len-crashes.ensures, crashed.ok)) (grind (arith, c.len-left.ensures, stopped.ok, length-map stopped.items running_test_view))
    all.counts all.tells c.in_ok-push_left.ensures flaky.counts flaky.tells c.in_ok-push_early_end.ensures c.in_ok-push_numbers.ensures
