use Rattle.std.proofs.Common.{rules}
use Rattle.test_report_run_notes.proofs.finish.finished_test.Goals as goal

pub returns : goal.returns
returns c = search rules
