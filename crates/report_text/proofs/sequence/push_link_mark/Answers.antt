use Rattle.std.proofs.Common.{codes, refl, ◌∷◌}
use Rattle.report_text.proofs.Commands.{word-chars}
use Rattle.report_text.proofs.Noted.{adds-as, adds-both}
use Rattle.report_text.proofs.sequence.push_link_mark.Goals as goal

pub returns : goal.returns
returns c =
    let start = word-chars (27 ∷ codes "]8;;") refl in
    let end = word-chars (27 ∷ codes "\\") refl in
    adds-both c.args.text.now _ _ (adds-as c.args.text.now start c.add_str.ensures)
    (adds-both c.add_str.new.self _ _ c.push_target.ensures (adds-as c.push_target.new.text end c.add_str-2.ensures))
