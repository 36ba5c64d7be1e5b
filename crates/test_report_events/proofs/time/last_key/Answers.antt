use Rattle.std.proofs.Common.{arith, length-take}
use Rattle.test_report_events.proofs.Keys.{earlier-key, last-key, no-key, shorter}
use Rattle.test_report_events.proofs.time.last_key.Goals as goal

pub returns-then-ends_with : goal.returns-then-ends_with
returns-then-ends_with c =
    let i = c.loop-colon.invariant in
    last-key c.args.line.now c.loop-colon.rest.now i.0 i.1 c.in-Some.colon c.in-Some.ensures.0.high c.ends_with.result
    c.in-Some.ensures i.2 c.ends_with.ensures.value c.if-ends_with.true

pub loop-colon-preserved : goal.loop-colon-preserved
loop-colon-preserved c =
    let i = c.loop-colon.invariant in
    let rest = c.loop-colon.rest.now in
    let low = c.in-Some.ensures.0.high in (
      grind (arith, length-take),
      shorter c.args.line.now rest i.0 i.1 c.in-Some.colon low,
      λ k at. grind (
        arith,
        length-take,
        earlier-key c.args.line.now rest i.0 i.1 c.in-Some.colon low c.ends_with.result
            c.in-Some.ensures i.2 c.ends_with.ensures.value c.if-ends_with.false k at,
      ),
    )

pub returns : goal.returns
returns c =
    let i = c.loop-colon.invariant in
    no-key c.args.line.now c.loop-colon.rest.now i.0 i.1 c.in_default.ensures i.2
