use Rattle.std.proofs.Common.{◌≡◌, ◌+◌, ◌-◌, length, arith}
use Rattle.output_slice.proofs.OccursLemmas.{occurs-in-part, occurs-of-part, is-last}
use Rattle.output_slice.proofs.signs.last_by_find.Goals as goal

pub loop-gap-preserved : goal.loop-gap-preserved
loop-gap-preserved c =
    let last = c.loop-gap.last in
    let gap = c.in-Some.gap in
    let bytes = c.args.bytes.now in
    let there = c.in-Some.ensures in
    let same : last + (gap + 1) ≡ last + 1 + gap = omega arith in
    rw same (occurs-of-part bytes c.args.sign.text.now gap (last + 1) (length bytes) (omega (arith, c.loop-gap.invariant.fits)) (omega arith) there.1)

pub returns : goal.returns
returns c =
    let last = c.loop-gap.last in
    let bytes = c.args.bytes.now in
    let stands = c.loop-gap.invariant in
    is-last _ 0 _ last (omega arith) (omega (arith, stands.fits)) (λ i low up h.
    let there = occurs-in-part bytes c.args.sign.text.now i (last + 1) (length bytes) low h.fits (omega arith) h in
    c.in_default.ensures (i - (last + 1)) (omega arith) (omega (arith, there.fits)) there) stands
