use Rattle.std.proofs.Common.{◌≡◌, ◌∙◌, ap, sym, arith, rules}
use Rattle.std.proofs.lemmas.Grind.{common_steps}
use Rattle.std.specs.Prelude.{Bool, if◌then◌else◌, Some}
use Rattle.run_events.specs.Config.{is_final_display, is_immediate_display}
use Rattle.run_events.specs.Level.{final_level_of}
use Rattle.run_events.specs.Attempts.{view_of}
use Rattle.run_events.specs.ViewedTest.{ViewedTest}
use Rattle.run_events.specs.Results.{is_termination_failure, succeeds}
use Rattle.run_events.specs.Visibility.{is_stored}
use Rattle.run_events_results.specs.declared.config.TestOutputDisplay.{TestOutputDisplay}
use Rattle.run_events_results.specs.declared.levels.OutputOnTestFinished.{OutputOnTestFinished}
use Rattle.run_events_results.specs.declared.levels.OutputStoreFinal.{OutputStoreFinal}
use Rattle.run_events_results.specs.declared.levels.OutputStoreFinal.TheVariants.{No, Yes}
use Rattle.uses.specs.Displayer.{display_of, without_output}
use Rattle.uses.proofs.DisplayerLemmas.{hidden_when_stopped, shown_up_to_signal, stored_below_signal, stored_under_signal}
use Rattle.uses.proofs.displayer.Displayer.on_test_finished.Goals as goal

pub returns-clause-stopped : goal.returns-clause-stopped
returns-clause-stopped c stops ended =
    let ended_view = ap (λ (t : ViewedTest). is_termination_failure t.result) c.view-view.ensures ∙ ended in
    let hidden = rw stops at c.compute_output_on_test_finished.ensures.exact ∙ hidden_when_stopped _ ended_view in
    (ap (λ (o : OutputOnTestFinished). o.show_immediate) hidden, ap (λ (o : OutputOnTestFinished). o.store_final) hidden)

pub returns-clause-at_once : goal.returns-clause-at_once
returns-clause-at_once c spared up_to =
    let ended = ap (λ (t : ViewedTest). is_termination_failure t.result) c.view-view.ensures in
    let kind = c.is_success.ensures ∙ ap (λ (t : ViewedTest). succeeds t.result) c.view-view.ensures in
    ap (λ (o : OutputOnTestFinished). o.show_immediate) c.compute_output_on_test_finished.ensures.exact
    ∙ shown_up_to_signal _ _ (λ stops. ended ∙ spared stops) up_to
    ∙ ap is_immediate_display (c.display_for-display.ensures ∙ ap (display_of c.args.self.now) kind)

pub returns-clause-listed : goal.returns-clause-listed
returns-clause-listed c spared below =
    let ended = ap (λ (t : ViewedTest). is_termination_failure t.result) c.view-view.ensures in
    let kind = c.is_success.ensures ∙ ap (λ (t : ViewedTest). succeeds t.result) c.view-view.ensures in
    let display = c.display_for-display.ensures ∙ ap (display_of c.args.self.now) kind in
    let level : final_level_of (view_of c.args.test.now) ≡ Some c.final_status_level-final_level.result = ap final_level_of (sym c.view-view.ensures)
    ∙ c.final_status_level-final_level.ensures in
    let Listed : TestOutputDisplay
    → OutputStoreFinal = λ d. if is_stored c.args.self.now.levels d c.final_status_level-final_level.result then Yes (is_final_display d) else No in
    rw level (ap (λ (o : OutputOnTestFinished). o.store_final) c.compute_output_on_test_finished.ensures.exact
    ∙ stored_below_signal _ _ (λ stops. ended ∙ spared stops) below
    ∙ ap Listed display)

pub returns-clause-under_signal : goal.returns-clause-under_signal
returns-clause-under_signal c signal =
    let kind = c.is_success.ensures ∙ ap (λ (t : ViewedTest). succeeds t.result) c.view-view.ensures in
    let display = c.display_for-display.ensures ∙ ap (display_of c.args.self.now) kind in
    let level : final_level_of (view_of c.args.test.now) ≡ Some c.final_status_level-final_level.result = ap final_level_of (sym c.view-view.ensures)
    ∙ c.final_status_level-final_level.ensures in
    let shown = ap (λ (o : OutputOnTestFinished). o.show_immediate) c.compute_output_on_test_finished.ensures.exact in
    let Listed : TestOutputDisplay
    → OutputStoreFinal = λ d. if is_stored c.args.self.now.levels d c.final_status_level-final_level.result then Yes (is_final_display d) else No in
    rw level (ap (λ (o : OutputOnTestFinished). o.store_final) c.compute_output_on_test_finished.ensures.exact
    ∙ stored_under_signal _ _ signal
    ∙ ap (λ (b : Bool). without_output b (Listed c.display_for-display.result)) (sym shown)
    ∙ ap (λ (d : TestOutputDisplay). without_output c.compute_output_on_test_finished.result.show_immediate (Listed d)) display)

pub returns-clause-line : goal.returns-clause-line
returns-clause-line c = grind (arith, common_steps)

pub returns-clause-never_twice : goal.returns-clause-never_twice
returns-clause-never_twice c = search rules

pub returns-clause-interrupted : goal.returns-clause-interrupted
returns-clause-interrupted c = search rules
