-- The numbers of open suites are added one after the other.
use Rattle.std.proofs.Common.{◌≡◌, map, take}
use Rattle.std.specs.List.{fold}
use Rattle.test_report_run.specs.Progress.{numbers_over, with_open}
use Rattle.test_report_run.specs.FileEnd.{end_of}
use Rattle.test_report_run.specs.Run.{run_state}
use Rattle.test_report_run.proofs.Runs.{boxed_state}
use Rattle.test_report_run.proofs.run.TestRun.numbers.Given as goal

abbrev pub invariant-loop-suite : goal.invariant-loop-suite
invariant-loop-suite l =
    let r = run_state l.fn.self in
    l.numbers ≡ fold with_open (with_open (numbers_over (end_of r)) r.outside) (map boxed_state (take l.suite-index l.fn.self.suites.list.items))
