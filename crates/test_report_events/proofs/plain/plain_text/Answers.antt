use Rattle.std.proofs.Common.{rules}
use Rattle.test_report_events.proofs.plain.plain_text.Goals as goal

pub returns : goal.returns
returns c = search rules
