-- The run is cancelled.
use Rattle.std.proofs.Common.{refl}
use Rattle.test_report_events.specs.Event.{Cancels}
use Rattle.test_report_programs.specs.Lines.{programs_state, same}
use Rattle.test_report_programs.proofs.Steps.{told-quiet}
use Rattle.test_report_programs.proofs.run.ProgramRun.on_cancelled.Goals as goal

pub returns : goal.returns
returns c = told-quiet (same (programs_state c.args.self.now)) (Cancels c.args.reason) _ refl refl c.on_cancelled.ensures.takes
