-- The notes of a suite that ends by its last line, and its numbers.
use Rattle.std.proofs.Common.{◌∙◌, ap, arith, sym}
use Rattle.std.proofs.lemmas.List.{drop-map, length-map, take-map}
use Rattle.test_report_run.specs.Running.{running_test_view, running_view}
use Rattle.test_report_run.specs.Suite.{state_of}
use Rattle.test_report_run.proofs.Ends.{last-notes}
use Rattle.test_report_run.proofs.suite.Suite.end.Goals as goal

pub returns : goal.returns
returns c =
    let tests = c.args.left.items in
    let e = c.in_ok-explained.explained in
    let lost = c.in_ok-left.ensures in
    let flaky = c.in_ok-release_flaky.ensures in
    last-notes (state_of c.args.self.now) (state_of c.fail_lost.new.self) (state_of c.release_flaky.new.self) (running_view tests) _
    (running_view c.in_ok-others.others.items) e _ c.in_ok-left.left _ _ _ _ _ _ _
    (grind (arith, c.len.ensures, c.args.left.ok, length-map tests running_test_view)) c.in_ok-explained.ensures.explains.0
    (ap running_view c.in_ok-others.ensures.items ∙ sym (take-map running_test_view e.skipped tests))
    (ap running_view c.in_ok-others.ensures.tail ∙ sym (drop-map running_test_view e.skipped tests))
    (rw (length-map c.in_ok-others.others.items running_test_view) lost.left)
    lost.counts c.in_ok-push_left.ensures lost.tells flaky.counts flaky.tells c.in_ok-push_last_line.ensures.tells c.or.ensures
    c.in_ok-push_numbers.ensures
