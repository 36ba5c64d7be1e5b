-- If one suite is open, a test belongs to it.
use Rattle.std.proofs.Common.{arith, sym}
use Rattle.std.proofs.lemmas.Grind.{common_steps}
use Rattle.std.proofs.lemmas.List.{length-map}
use Rattle.test_report_run.specs.Run.{run_state}
use Rattle.test_report_run.proofs.Runs.{boxed_state, place-of-one}
use Rattle.test_report_run.proofs.run.TestRun.suite_of.Goals as goal

pub returns-then-len-eq1 : goal.returns-then-len-eq1
returns-then-len-eq1 c =
    let size = length-map c.args.self.now.suites.list.items boxed_state in
    sym (place-of-one (run_state c.args.self.now) c.args.name.now (grind (arith, common_steps, size)))
