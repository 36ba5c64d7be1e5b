use Rattle.std.proofs.Common.{◌∙◌, ap, sym}
use Rattle.std.proofs.lemmas.Bool.{false≢true}
use Rattle.test_report_events.specs.Event.{DamagedLine}
use Rattle.test_report_events.proofs.damage.damage_of.Goals as goal

pub returns-in_ok-line_text : goal.returns-in_ok-line_text
returns-in_ok-line_text c = (c.says_failure.ensures.0 c.if-says_failure.true, ap DamagedLine c.in_ok-line_text.ensures)

pub returns-else-says_failure : goal.returns-else-says_failure
returns-else-says_failure c = λ h. false≢true (sym c.if-says_failure.false ∙ c.says_failure.ensures.1 h)
