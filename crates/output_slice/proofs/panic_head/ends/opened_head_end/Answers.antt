use Rattle.output_slice.proofs.Words.{arith, ◌+◌, subst, IsNextQuote}
use Rattle.output_slice.proofs.HeadLemmas.{IsOpenedHeadEnd-closed, IsOpenedHeadEnd-opened}
use Rattle.output_slice.proofs.panic_head.ends.opened_head_end.Goals as goal

pub returns-then-not-opens-clause-value : goal.returns-then-not-opens-clause-value
returns-then-not-opens-clause-value g c = IsOpenedHeadEnd-closed _ c.args.place c.args.quote (grind arith)

pub returns-clause-value : goal.returns-clause-value
returns-clause-value g c =
    let e = rw c.opens.ensures.same at c.named_head_end.ensures.value in
    let n = subst (IsNextQuote (g.S.ByteSource.bytes c.args.source.now) (c.args.quote + 1)) c.in_ok-close.was c.requires.next in
    IsOpenedHeadEnd-opened _ c.args.place c.args.quote c.in_ok-close.close (c.opens.ensures.value.0 c.if-not-opens.false)
    c.requires.is_quote c.requires.high n c.named_head_end.result e
