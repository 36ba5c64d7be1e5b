use Rattle.output_slice.proofs.Words.{◌≡◌, arith}
use Rattle.output_slice.proofs.OccursLemmas.{occurs-rest}
use Rattle.output_slice.proofs.signs.sign_around.Goals as goal

pub returns-then-starts_with_str : goal.returns-then-starts_with_str
returns-then-starts_with_str c =
    let start = c.in_ok-start.ensures in
    let rest = occurs-rest c.args.bytes.now c.args.sign.text.now c.in_ok-start.start (omega (arith, start)) in
    (omega (arith, start), rest.0 (c.starts_with_str.ensures.0 c.if-starts_with_str.true))

pub returns-else-starts_with_str : goal.returns-else-starts_with_str
returns-else-starts_with_str c = λ k is h.
    let start = c.in_ok-start.ensures in
    let rest = occurs-rest c.args.bytes.now c.args.sign.text.now c.in_ok-start.start (omega (arith, start)) in
    let same : k ≡ c.in_ok-start.start = omega (arith, start) in
    absurd (cc (c.if-starts_with_str.false, c.starts_with_str.ensures.1 (rest.1 (rw same at h))))
