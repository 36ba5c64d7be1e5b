use Rattle.test_report_laws.proofs.FailedLines.{line-shows, lines-told}
use Rattle.test_report_laws.proofs.run.failed_lines_show.Goals as goal

pub returns-clause-told : goal.returns-clause-told
returns-clause-told c = lines-told

pub returns-clause-shown : goal.returns-clause-shown
returns-clause-shown c = line-shows
