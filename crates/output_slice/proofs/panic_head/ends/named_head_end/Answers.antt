use Rattle.std.proofs.Common.{arith, rules, ◌∙◌}
use Rattle.output_slice.proofs.HeadLemmas.{named-empty, named-none, named-malformed, named-some}
use Rattle.output_slice.proofs.panic_head.ends.named_head_end.Goals as goal

pub returns-then-quote-close : goal.returns-then-quote-close
returns-then-quote-close g c =
    let end = named-empty _ c.args.quote c.args.close _ c.requires.low c.requires.high c.if-quote-close.true in
    record { value = end.0; reads = end.1; all = search rules; same = search rules }

pub returns-in_err-stop : goal.returns-in_err-stop
returns-in_err-stop g c =
    let tail = c.in_err-stop.ensures in
    let end = named-none _ c.args.quote c.args.close _ c.requires.low c.requires.high _ tail.value tail.reads in
    rw c.from_residual.ensures (record { value = end.0; reads = end.1; all = tail.all; same = tail.same })

pub returns-then-not-is_utf8_between : goal.returns-then-not-is_utf8_between
returns-then-not-is_utf8_between g c =
    let tail = c.in_ok-stop.ensures in
    let name = c.is_utf8_between.ensures in
    let end = named-malformed _ c.args.quote c.args.close _ c.requires.low c.requires.high _ _ _ tail.value tail.reads name.reads
    (λ utf8. absurd (cc (c.if-not-is_utf8_between.true, name.value.1 (rw (← tail.same) at utf8)))) in
    record { value = end.0; reads = end.1; all = omega (arith, tail.all, name.grows); same = name.same ∙ tail.same }

pub returns : goal.returns
returns g c =
    let tail = c.in_ok-stop.ensures in
    let name = c.is_utf8_between.ensures in
    let end = named-some _ c.args.quote c.args.close _ c.requires.low c.requires.high _ _ _ tail.value tail.reads name.reads
    (rw tail.same at name.value.0 c.if-not-is_utf8_between.false) c.requires.quiet c.if-quote-close.false in
    record { value = end.0; reads = end.1; all = omega (arith, tail.all, name.grows); same = name.same ∙ tail.same }
