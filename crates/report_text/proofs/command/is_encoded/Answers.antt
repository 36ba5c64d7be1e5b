use Rattle.std.proofs.Common.{rules}
use Rattle.report_text.proofs.command.is_encoded.Goals as goal

pub returns-in_default : goal.returns-in_default
returns-in_default c = search rules
