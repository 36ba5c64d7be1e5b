use Rattle.test_report_laws.proofs.Shown.{early-shows, last-agrees, stray-shows}
use Rattle.test_report_laws.proofs.Sound.{failures-known, suites-sound}
use Rattle.test_report_laws.proofs.run.nothing_is_hidden.Goals as goal

pub returns-clause-last_lines : goal.returns-clause-last_lines
returns-clause-last_lines c = last-agrees

pub returns-clause-early_ends : goal.returns-clause-early_ends
returns-clause-early_ends c = early-shows

pub returns-clause-stray_ends : goal.returns-clause-stray_ends
returns-clause-stray_ends c = stray-shows

pub returns-clause-sound : goal.returns-clause-sound
returns-clause-sound c = suites-sound

pub returns-clause-known : goal.returns-clause-known
returns-clause-known c = failures-known
