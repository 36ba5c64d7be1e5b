-- Where the running tests of a suite are parted.
use Rattle.std.proofs.Common.{◌≡◌}
use Rattle.test_report_run.specs.Over.{crashed_of, early_end_of, stopped_of}
use Rattle.test_report_run.specs.Running.{running_view}
use Rattle.test_report_run.specs.Suite.{state_of}
use Rattle.test_report_run.proofs.suite.Suite.parted.Given as goal

abbrev pub invariant-loop-test : goal.invariant-loop-test
invariant-loop-test l =
    (running_view l.crashed.items ≡ crashed_of (state_of l.fn.self) (early_end_of l.fn.how) (running_view l.yielded))
    × (running_view l.stopped.items ≡ stopped_of (state_of l.fn.self) (early_end_of l.fn.how) (running_view l.yielded))
