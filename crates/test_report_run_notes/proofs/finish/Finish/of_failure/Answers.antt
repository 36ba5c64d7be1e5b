use Rattle.std.proofs.Common.{rules}
use Rattle.test_report_run_notes.proofs.finish.Finish.of_failure.Goals as goal

pub returns-in-Flaky : goal.returns-in-Flaky
returns-in-Flaky c = search rules
