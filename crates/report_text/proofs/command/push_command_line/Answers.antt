use Rattle.std.proofs.Common.{◌∙◌, ◌≡◌, ◌++◌, ◌∷◌, [], List, ℕ, ap, append_assoc, codes, false, refl, true}
use Rattle.std.specs.Str.{chars}
use Rattle.report_text.specs.Command.{encoded, kind_name, properties_text}
use Rattle.report_text.specs.declared.line.Mark.TheVariants.{Nothing}
use Rattle.report_text.proofs.Commands.{chars-kind, word-chars}
use Rattle.report_text.proofs.Noted.{adds-as, adds-both}
use Rattle.report_text.proofs.command.push_command_line.Goals as goal

joined : (w k p m e : List ℕ) → w ++ (k ++ (p ++ (w ++ (m ++ e)))) ≡ w ++ ((k ++ (p ++ (w ++ m))) ++ e)
joined w k p m e = simp append_assoc

pub returns : goal.returns
returns c =
    let colons = word-chars (codes "::") refl in
    let kind = ap chars c.kind_name.ensures ∙ chars-kind c.args.kind in
    let message = encoded false Nothing (chars c.args.message.now) in
    adds-as c.args.text.now (joined (codes "::") (kind_name c.args.kind) (properties_text true c.args.properties.now) message (10 ∷ []))
    (adds-both c.args.text.now _ _ (adds-as c.args.text.now colons c.add_str.ensures)
    (adds-both c.add_str.new.self _ _ (adds-as c.add_str.new.self kind c.add_str-2.ensures)
    (adds-both c.add_str-2.new.self _ _ c.push_properties.ensures
    (adds-both c.push_properties.new.text _ _ (adds-as c.push_properties.new.text colons c.add_str-3.ensures)
    (adds-both c.add_str-3.new.self _ _ c.push_encoded.ensures c.add_char.ensures)))))
