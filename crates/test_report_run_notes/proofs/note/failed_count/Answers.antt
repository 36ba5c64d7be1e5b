use Rattle.std.proofs.Common.{rules}
use Rattle.test_report_run_notes.proofs.note.failed_count.Goals as goal

pub returns : goal.returns
returns c = search rules
