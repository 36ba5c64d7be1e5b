-- The first prints are dropped while there are more than three.
use Rattle.std.proofs.Common.{◌∙◌, List, ap, arith, map}
use Rattle.std.proofs.lemmas.Grind.{common_steps}
use Rattle.test_report_run.specs.Prints.{last_three, last_view}
use Rattle.test_report_run.specs.declared.prints.LastPrint.{LastPrint}
use Rattle.test_report_run.proofs.LastPrints.{three-next}
use Rattle.test_report_run.proofs.prints.drop_early.Goals as goal

pub loop-prints-preserved : goal.loop-prints-preserved
loop-prints-preserved c =
    ap (λ (prints : List LastPrint). last_three (map last_view prints)) c.remove.ensures.items
    ∙ three-next c.loop-prints.prints.items (grind (arith, common_steps, c.len.ensures, c.loop-prints.prints.ok)) ∙ c.loop-prints.invariant
