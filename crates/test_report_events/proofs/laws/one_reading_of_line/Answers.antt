use Rattle.test_report_events.proofs.Readings.{one-reading-of-line}
use Rattle.test_report_events.proofs.laws.one_reading_of_line.Goals as goal

pub returns : goal.returns
returns c = one-reading-of-line
