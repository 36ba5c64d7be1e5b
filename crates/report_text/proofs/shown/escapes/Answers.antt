use Rattle.std.proofs.Common.{rules}
use Rattle.report_text.proofs.shown.escapes.Goals as goal

pub returns-in_default-matches : goal.returns-in_default-matches
returns-in_default-matches c = search rules
