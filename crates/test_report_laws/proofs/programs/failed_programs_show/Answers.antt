use Rattle.test_report_laws.proofs.ProgramCauses.{lines-keep, program-shows, unstarted-shows}
use Rattle.test_report_laws.proofs.ProgramFiles.{end-shows}
use Rattle.test_report_laws.proofs.ProgramRuns.{end-fails}
use Rattle.test_report_laws.proofs.programs.failed_programs_show.Goals as goal

pub returns-clause-known : goal.returns-clause-known
returns-clause-known c = lines-keep

pub returns-clause-programs : goal.returns-clause-programs
returns-clause-programs c = program-shows

pub returns-clause-unstarted : goal.returns-clause-unstarted
returns-clause-unstarted c = unstarted-shows

pub returns-clause-ends : goal.returns-clause-ends
returns-clause-ends c = end-shows

pub returns-clause-outcome : goal.returns-clause-outcome
returns-clause-outcome c = end-fails
