use Rattle.std.proofs.Common.{◌∙◌, sym}
use Rattle.run_events_results.proofs.SubRunOrder.{same-sub_run, sub_run-equal}
use Rattle.run_events_results.proofs.laws.stress_index_order.Goals as goal

pub returns-clause-equality : goal.returns-clause-equality
returns-clause-equality c = (
  λ e. same-sub_run c.args.a c.args.b (sym c.cmp.ensures ∙ e),
  λ same. c.cmp.ensures ∙ sub_run-equal c.args.a c.args.b same,
)
