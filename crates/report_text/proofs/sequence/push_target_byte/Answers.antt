use Rattle.std.proofs.Common.{◌∙◌, ◌∷◌, [], ◌/◌, ◌%◌, Bool, ap, if◌then◌else◌, sym}
use Rattle.report_text.specs.Sequence.{hex_digit}
use Rattle.report_text.proofs.Noted.{adds-as, adds-both}
use Rattle.report_text.proofs.sequence.push_target_byte.Goals as goal

pub returns-else-is_unreserved : goal.returns-else-is_unreserved
returns-else-is_unreserved c =
    let b = c.args.byte in
    let coded = 37 ∷ hex_digit (b / 16) ∷ hex_digit (b % 16) ∷ [] in
    let second = c.add_char-else-is_unreserved.new.self in
    let third = c.add_char-else-is_unreserved-2.new.self in
    adds-as c.args.text.now (ap (λ (u : Bool). if u then b ∷ [] else coded) (sym (sym c.is_unreserved.ensures ∙ c.if-is_unreserved.false)))
    (adds-both c.args.text.now _ _ c.add_char-else-is_unreserved.ensures
    (adds-both second _ _ (adds-as second (ap (λ d. d ∷ []) c.hex_digit.ensures) c.add_char-else-is_unreserved-2.ensures)
    (adds-as third (ap (λ d. d ∷ []) c.hex_digit-else-is_unreserved.ensures) c.add_char-else-is_unreserved-3.ensures)))
