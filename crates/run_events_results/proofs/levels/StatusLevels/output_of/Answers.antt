use Rattle.std.proofs.Common.{◌≡◌, ◌<◌, Some, rules, sym, ◌∙◌}
use Rattle.run_events_results.specs.Visibility.{asked_of, severity}
use Rattle.run_events_results.specs.declared.results.CancelReason.TheVariants as reason
use Rattle.run_events_results.proofs.VisibilityLaws.{at-least, hidden-above, hidden-stopped, shown-below, shown-signal}
use Rattle.run_events_results.proofs.levels.StatusLevels.output_of.Goals as goal

pub returns-then-is_stopped : goal.returns-then-is_stopped
returns-then-is_stopped c =
    let a = c.args in
    let asked = asked_of a.self.now a.display a.test_status_level a.test_final_status_level a.execution_result.now in
    let line = c.ge-write_status_line.ensures ∙ at-least a.self.now.status_level a.test_status_level in
    c.hidden.ensures ∙ hidden-stopped asked a.cancel_status _ (sym c.is_stopped.ensures ∙ c.if-is_stopped.true) line

pub returns-in-Some-Interrupt : goal.returns-in-Some-Interrupt
returns-in-Some-Interrupt c =
    let a = c.args in
    let asked = asked_of a.self.now a.display a.test_status_level a.test_final_status_level a.execution_result.now in
    let line = c.ge-write_status_line.ensures ∙ at-least a.self.now.status_level a.test_status_level in
    let above : severity (Some reason.Signal) < severity a.cancel_status = search rules in
    c.hidden-in-Some-Interrupt.ensures ∙ hidden-above asked a.cancel_status _ above line

pub returns-in-Some-Signal : goal.returns-in-Some-Signal
returns-in-Some-Signal c =
    let a = c.args in
    let asked = asked_of a.self.now a.display a.test_status_level a.test_final_status_level a.execution_result.now in
    let line = c.ge-write_status_line.ensures ∙ at-least a.self.now.status_level a.test_status_level in
    let signal : severity a.cancel_status ≡ severity (Some reason.Signal) = search rules in
    shown-signal asked a.cancel_status _ _ _ _ _ signal line
    c.is_immediate.ensures c.is_stored-is_stored.ensures c.is_only_final.ensures c.stored.ensures

pub returns-in-None : goal.returns-in-None
returns-in-None c =
    let a = c.args in
    let asked = asked_of a.self.now a.display a.test_status_level a.test_final_status_level a.execution_result.now in
    let line = c.ge-write_status_line.ensures ∙ at-least a.self.now.status_level a.test_status_level in
    let below : severity a.cancel_status < severity (Some reason.Signal) = search rules in
    shown-below asked a.cancel_status _ _ _ _ _ (sym c.is_stopped.ensures ∙ c.if-is_stopped.false) below line
    c.is_immediate-in-None.ensures c.is_stored-is_stored.ensures c.is_final.ensures c.stored-in-None.ensures
