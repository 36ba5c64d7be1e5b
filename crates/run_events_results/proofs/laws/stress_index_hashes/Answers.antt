use Rattle.std.proofs.Common.{◌∙◌, sym}
use Rattle.run_events_results.proofs.SubRunOrder.{sub_run-itself, tells-sub_run}
use Rattle.run_events_results.proofs.laws.stress_index_hashes.Goals as goal

pub returns-clause-equality : goal.returns-clause-equality
returns-clause-equality g c = (
  λ e. tells-sub_run c.args.a c.args.b (sym c.eq-are_equal.ensures ∙ e),
  λ same. c.eq-are_equal.ensures ∙ sub_run-itself c.args.a c.args.b same,
)
