use Rattle.std.proofs.Common.{◌<◌, ◌∙◌, ◌≡◌, ◌∷◌, ◌++◌, ◌+◌, add-one, ap, append_assoc, arith, drop, drop-cons, get_or, length, refl, sym}
use Rattle.report_text.specs.Sequence.{target_byte, target_text}
use Rattle.report_text.proofs.sequence.push_target.Goals as goal

pub loop-byte-preserved : goal.loop-byte-preserved
loop-byte-preserved c = λ e.
    let bytes = c.args.target.now in
    let i = c.loop-byte.byte-index in
    let text = c.loop-byte.text.text in
    let within : c.loop-byte.byte-index < length c.args.target.now = omega (arith, c.loop-byte-test.true, ap length c.as_bytes-byte-items.ensures.value) in
    let cut : drop i bytes ≡ get_or bytes i 0 ∷ drop (i + 1) bytes = rw (add-one, drop-cons bytes i 0) refl in
    let rest = target_text (drop (i + 1) bytes) in
    let first = (rw c.as_bytes-byte-items.ensures.value at c.push_target_byte.ensures) e in
    let all = c.loop-byte.invariant first.0 in (
      all.0,
      ap (λ t. t ++ rest) first.1
          ∙ (append_assoc text (target_byte (get_or bytes i 0)) rest ∙ (ap (λ bs. text ++ target_text bs) (sym cut) ∙ all.1)),
    )
