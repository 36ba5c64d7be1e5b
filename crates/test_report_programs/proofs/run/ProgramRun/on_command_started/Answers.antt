-- The command starts.
use Rattle.std.proofs.Common.{refl}
use Rattle.test_report_events.specs.Event.{CommandStarts}
use Rattle.test_report_run.specs.SuiteNames.{names_of}
use Rattle.test_report_programs.specs.Lines.{programs_state, same}
use Rattle.test_report_programs.proofs.Steps.{told-quiet}
use Rattle.test_report_programs.proofs.run.ProgramRun.on_command_started.Goals as goal

pub returns : goal.returns
returns c = told-quiet (same (programs_state c.args.self.now)) (CommandStarts (names_of c.args.names)) _ refl refl c.on_command_started.ensures.takes
