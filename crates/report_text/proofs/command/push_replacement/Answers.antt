use Rattle.std.proofs.Common.{◌∙◌, ap, codes, refl, sym}
use Rattle.report_text.specs.Command.{replacement}
use Rattle.report_text.proofs.Commands.{word-chars}
use Rattle.report_text.proofs.Noted.{adds-as}
use Rattle.report_text.proofs.command.push_replacement.Goals as goal

pub returns-in-37 : goal.returns-in-37
returns-in-37 c = adds-as c.args.text.now (word-chars (codes "%25") refl ∙ ap replacement (sym c.in-37.is)) c.add_str.ensures

pub returns-in-13 : goal.returns-in-13
returns-in-13 c = adds-as c.args.text.now (word-chars (codes "%0D") refl ∙ ap replacement (sym c.in-13.is)) c.add_str-in-13.ensures

pub returns-in-10 : goal.returns-in-10
returns-in-10 c = adds-as c.args.text.now (word-chars (codes "%0A") refl ∙ ap replacement (sym c.in-10.is)) c.add_str-in-10.ensures

pub returns-in-58 : goal.returns-in-58
returns-in-58 c = adds-as c.args.text.now (word-chars (codes "%3A") refl ∙ ap replacement (sym c.in-58.is)) c.add_str-in-58.ensures

pub returns-in-44 : goal.returns-in-44
returns-in-44 c = adds-as c.args.text.now (word-chars (codes "%2C") refl ∙ ap replacement (sym c.in-44.is)) c.add_str-in-44.ensures
