use Rattle.test_report_laws.proofs.CargoFailures.{cargo-shows}
use Rattle.test_report_laws.proofs.CleanEnds.{clean-whole}
use Rattle.test_report_laws.proofs.Damage.{damage-shows}
use Rattle.test_report_laws.proofs.FileEvents.{command-shows, no-event-shows}
use Rattle.test_report_laws.proofs.Verdicts.{verdict-shows}
use Rattle.test_report_laws.proofs.run.success_means.Goals as goal

pub returns-clause-verdicts : goal.returns-clause-verdicts
returns-clause-verdicts c = verdict-shows

pub returns-clause-damaged : goal.returns-clause-damaged
returns-clause-damaged c = damage-shows

pub returns-clause-events : goal.returns-clause-events
returns-clause-events c = no-event-shows

pub returns-clause-commands : goal.returns-clause-commands
returns-clause-commands c = command-shows

pub returns-clause-whole : goal.returns-clause-whole
returns-clause-whole c = clean-whole

pub returns-clause-cargo : goal.returns-clause-cargo
returns-clause-cargo c = cargo-shows
