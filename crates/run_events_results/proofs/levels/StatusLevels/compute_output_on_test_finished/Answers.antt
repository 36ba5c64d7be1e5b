use Rattle.std.proofs.Common.{◌∙◌, arith, rules, sym}
use Rattle.std.proofs.lemmas.Grind.{common_steps}
use Rattle.run_events_results.proofs.VisibilityLaws.{line-stays, never-grows}
use Rattle.run_events_results.proofs.levels.StatusLevels.compute_output_on_test_finished.Goals as goal

pub returns-clause-never_grows : goal.returns-clause-never_grows
returns-clause-never_grows c = λ lesser order usual.
    rw c.output_of.ensures (never-grows _ lesser c.args.cancel_status order usual)

pub returns-clause-line : goal.returns-clause-line
returns-clause-line c = λ other.
    rw c.output_of.ensures (line-stays _ other ∙ sym (line-stays _ c.args.cancel_status))

pub returns-clause-exact : goal.returns-clause-exact
returns-clause-exact c = search rules

pub returns-clause-never_twice : goal.returns-clause-never_twice
returns-clause-never_twice c = grind (arith, common_steps)
