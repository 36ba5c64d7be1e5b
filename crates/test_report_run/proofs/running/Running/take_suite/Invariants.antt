-- While the tests of a suite are removed.
use Rattle.std.proofs.Common.{◌≡◌, ◌++◌, filter, length, not}
use Rattle.test_report_run.specs.Running.{is_of, running_view, tests_of}
use Rattle.test_report_run.proofs.running.Running.take_suite.Given as goal

abbrev pub invariant-loop-test : goal.invariant-loop-test
invariant-loop-test l = record {
  taken : running_view l.taken.items ++ filter (is_of l.suite) (tests_of l.self) ≡ filter (is_of l.suite) (tests_of l.fn.self);
  left : filter (λ t. not (is_of l.suite t)) (tests_of l.self) ≡ filter (λ t. not (is_of l.suite t)) (tests_of l.fn.self);
  started : l.self.started ≡ l.fn.self.started;
}

abbrev pub decreases-loop-test : goal.decreases-loop-test
decreases-loop-test l = length (tests_of l.self)
