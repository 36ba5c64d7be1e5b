use Rattle.report_text.proofs.Joined.{texts_join}
use Rattle.report_text.proofs.laws.texts_join.Goals as goal

pub returns : goal.returns
returns c = texts_join
