use Rattle.std.proofs.Common.{sym}
use Rattle.report_text.proofs.Commands.{end-is}
use Rattle.report_text.proofs.Noted.{adds-as}
use Rattle.report_text.proofs.command.push_line_end.Goals as goal

pub returns-in_default : goal.returns-in_default
returns-in_default c = adds-as c.args.text.now (sym (end-is c.args.front c.args.text.now.text c.in_default.not-White)) c.add_char-in_default.ensures
