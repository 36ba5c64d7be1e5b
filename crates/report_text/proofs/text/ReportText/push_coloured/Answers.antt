use Rattle.std.proofs.Common.{arith}
use Rattle.std.proofs.lemmas.Grind.{common_steps}
use Rattle.report_text.proofs.text.ReportText.push_coloured.Goals as goal

pub returns-then-push_by-clause-text : goal.returns-then-push_by-clause-text
returns-then-push_by-clause-text c = grind (arith, common_steps)
