use Rattle.std.proofs.Common.{◌∙◌, ap}
use Rattle.std.specs.Str.{chars}
use Rattle.report_text.proofs.Commands.{chars-name}
use Rattle.report_text.proofs.Noted.{adds-as, adds-both}
use Rattle.report_text.proofs.command.push_property.Goals as goal

pub returns : goal.returns
returns c =
    let name = ap chars c.property_name.ensures ∙ chars-name c.args.property.now.name in
    adds-both c.args.text.now _ _ (adds-as c.args.text.now name c.add_str.ensures)
    (adds-both c.add_str.new.self _ _ c.add_char.ensures c.push_encoded.ensures)
