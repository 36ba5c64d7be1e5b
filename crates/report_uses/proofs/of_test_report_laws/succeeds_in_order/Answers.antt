use Rattle.std.proofs.Common.{◌≡◌, ◌↔◌, ◌∙◌, ◌∷◌, [], IsTrue, ap, rules, sym}
use Rattle.std.specs.List.{flat_map}
use Rattle.run_events_stats.specs.declared.outcome.run_outcome.RunOutcome.TheVariants.{Success}
use Rattle.test_report_run_notes.specs.declared.note.RunEnd.{RunEnd}
use Rattle.test_report_run.specs.Run.{run_settings}
use Rattle.report_uses.proofs.of_test_report_laws.succeeds_in_order.Goals as goal

pub returns : goal.returns
returns c =
    let (events, say, is) = c.in_ok-end.ensures in
    let same = ap (λ (end : RunEnd). end.outcome) is in
    let equal : IsTrue c.eq.result ↔ (c.in_ok-end.end.outcome ≡ Success) = search rules in
    let law = c.success_is_in_order.ensures.in_order (run_settings 60000000 []) (flat_map (λ line. line) events ∷ []) in
    (events, say, (λ yes. sym same ∙ equal.0 yes, λ success. equal.1 (same ∙ success)), λ yes. (law.0 (sym same ∙ equal.0 yes)).1)
