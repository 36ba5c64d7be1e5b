-- The run is cancelled, if there is a reason.
use Rattle.std.proofs.Common.{◌∙◌, Option, ap, option_map, refl, sym}
use Rattle.run_events_results.specs.declared.results.CancelReason.{CancelReason}
use Rattle.test_report_events.specs.Event.{Cancels}
use Rattle.test_report_programs.specs.Lines.{programs_state, step, told_if}
use Rattle.test_report_programs.proofs.Steps.{told-quiet}
use Rattle.test_report_programs.proofs.run.ProgramRun.cancel.Goals as goal

pub returns-in-Some : goal.returns-in-Some
returns-in-Some c = λ notes.
    told-quiet (step (programs_state c.args.self.now) notes) (Cancels c.in-Some.reason) _ refl refl c.on_cancelled.ensures.takes
    ∙ ap (λ (r : Option CancelReason). told_if (step (programs_state c.args.self.now) notes) (option_map Cancels r)) (sym c.in-Some.is)
