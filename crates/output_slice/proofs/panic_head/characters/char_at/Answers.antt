use Rattle.output_slice.proofs.Words.{set, sym, ◌∙◌, arith, len_utf8_bounds, length-encode}
use Rattle.output_slice.proofs.CharLemmas.{ascii-char, one-byte, buffer-more, char-some, char-none}
use Rattle.output_slice.proofs.panic_head.characters.char_at.Goals as goal

pub loop-i-init : goal.loop-i-init
loop-i-init g c = grind (arith, one-byte)

pub returns-in-Some : goal.returns-in-Some
returns-in-Some g c =
    let i = c.loop-i.invariant in
    let e = rw i.0 at c.byte.ensures.value in
    let reads = buffer-more _ c.loop-i.buffer c.args.at c.loop-i.i c.byte.result (omega arith) i.4 e in
    let char = sym c.decode-found.ensures.char ∙ c.in-Some.is in
    let h = char-some _ (set c.loop-i.buffer c.loop-i.i c.byte.result) c.args.at c.args.stop c.loop-i.i (omega arith) (omega arith)
    (omega arith) c.requires.high reads c.in-Some.c i.3 char in
    let width = c.decode-found.ensures.size in
    grind arith

pub loop-i-preserved : goal.loop-i-preserved
loop-i-preserved g c =
    let b = g.S.ByteSource.bytes c.args.source.now in
    let i = c.loop-i.invariant in
    let e = rw i.0 at c.byte.ensures.value in
    let reads = buffer-more b c.loop-i.buffer c.args.at c.loop-i.i c.byte.result (omega arith) i.4 e in
    let char = sym c.decode-found.ensures.char ∙ c.in_default.is in
    let none = char-none b (set c.loop-i.buffer c.loop-i.i c.byte.result) c.args.at c.args.stop c.loop-i.i (omega arith) (omega arith)
    (omega arith) c.requires.high reads char in
    grind arith

pub returns-clause-value : goal.returns-clause-value
returns-clause-value g c = grind (arith, len_utf8_bounds, length-encode)

pub returns-then-first-lt128-clause-value : goal.returns-then-first-lt128-clause-value
returns-then-first-lt128-clause-value g c =
    ascii-char _ c.args.at c.args.stop c.byte-first.result c.byte-first.ensures.value c.if-first-lt128.true c.requires.low c.requires.high
