use Rattle.std.proofs.Common.{arith}
use Rattle.output_slice.proofs.CharLemmas.{utf8-char, char-utf8}
use Rattle.output_slice.proofs.panic_head.characters.is_utf8_between.Goals as goal

pub loop-at-preserved : goal.loop-at-preserved
loop-at-preserved g c =
    let v = rw c.loop-at.invariant.0 at c.in-Some.ensures.value in
    let step = utf8-char _ c.loop-at.at c.args.to c.in-Some.field-0-0 c.in-Some.size v.0 v.1 in
    grind arith

pub returns-in-None-clause-value : goal.returns-in-None-clause-value
returns-in-None-clause-value g c =
    let none = rw c.loop-at.invariant.0 at c.in-None.ensures.value in
    let first = char-utf8 _ c.loop-at.at c.args.to c.loop-at-test.true c.requires.high in
    (λ no. absurd (cc no), λ text. let found = first (c.loop-at.invariant.4.0 text) in absurd (none found.0 found.1))
