use Rattle.std.proofs.Common.{rules}
use Rattle.test_report_events.proofs.text.end_contents.Goals as goal

pub returns : goal.returns
returns c = search rules
