-- The tests of a suite, taken one by one.
use Rattle.std.proofs.Common.{◌∙◌, ◌++◌, ap, arith, sym}
use Rattle.std.proofs.lemmas.Grind.{common_steps}
use Rattle.test_report_run.proofs.Takes.{takes_first, takes_none, view_push}
use Rattle.test_report_run.specs.Running.{is_of, running_test_view, running_view, tests_of}
use Rattle.test_report_run.proofs.running.Running.take_suite.Goals as goal

pub loop-test-preserved : goal.loop-test-preserved
loop-test-preserved c =
    let suite = c.args.suite in
    let before = c.loop-test.invariant in
    let taken = c.loop-test.taken.items in
    let takes = takes_first (is_of suite) (tests_of c.loop-test.self) (running_test_view c.in-Some.test) c.in-Some.ensures.found in
    record {
      taken = rw (c.in_ok-push.ensures.items, c.remove_of_suite.ensures.left)
          (view_push taken c.in-Some.test _ ∙ ap (λ ts. running_view taken ++ ts) (sym takes.0) ∙ before.taken);
      left = rw c.remove_of_suite.ensures.left (takes.1 ∙ before.left);
      started = c.in-Some.ensures.started ∙ before.started;
    }

pub returns-clause-taken : goal.returns-clause-taken
returns-clause-taken c =
    let none = takes_none (is_of c.args.suite) (tests_of c.loop-test.self) c.in_default.ensures.found in
    grind (arith, common_steps, none.0, c.loop-test.invariant.taken)

pub returns-clause-left : goal.returns-clause-left
returns-clause-left c =
    let none = takes_none (is_of c.args.suite) (tests_of c.loop-test.self) c.in_default.ensures.found in
    c.remove_of_suite.ensures.left ∙ none.2 ∙ sym none.1 ∙ c.loop-test.invariant.left
