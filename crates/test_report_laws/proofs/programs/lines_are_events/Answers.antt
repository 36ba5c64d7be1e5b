use Rattle.test_report_laws.proofs.ProgramEvents.{closes-are, file-ends-are, lines-are}
use Rattle.test_report_laws.proofs.ProgramRuns.{runs-are}
use Rattle.test_report_laws.proofs.programs.lines_are_events.Goals as goal

pub returns-clause-lines : goal.returns-clause-lines
returns-clause-lines c = lines-are

pub returns-clause-closes : goal.returns-clause-closes
returns-clause-closes c = closes-are

pub returns-clause-file_ends : goal.returns-clause-file_ends
returns-clause-file_ends c = file-ends-are

pub returns-clause-runs : goal.returns-clause-runs
returns-clause-runs c = runs-are
