-- The suites without one of them.
use Rattle.std.proofs.Common.{sym}
use Rattle.std.proofs.lemmas.Option.{get_or_from_slice_get}
use Rattle.test_report_run.specs.Run.{run_state}
use Rattle.test_report_run.specs.Suite.{state_of}
use Rattle.test_report_run.proofs.run.TestRun.take_out.Goals as goal

pub returns-clause-suite : goal.returns-clause-suite
returns-clause-suite c =
    let r = run_state c.args.self.now in
    sym (get_or_from_slice_get r.suites c.args.at (state_of c.remove.result) r.outside c.remove.ensures.suite)
