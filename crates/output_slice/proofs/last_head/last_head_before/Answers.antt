use Rattle.std.proofs.Common.{Some, None, rules}
use Rattle.output_slice.proofs.CutLemmas.{last-within-front, opening-none}
use Rattle.output_slice.proofs.TakenLemmas.{IsLastTaken-none}
use Rattle.output_slice.proofs.last_head.last_head_before.Goals as goal

pub loop-at-init : goal.loop-at-init
loop-at-init c = λ found last. last-within-front c.args.bytes.now c.args.end found c.requires.within c.requires.ends last

pub loop-at-preserved-then-window-rest : goal.loop-at-preserved-then-window-rest
loop-at-preserved-then-window-rest c = λ found last.
    let window = last-within-front _ c.heads_end.result found c.heads_end.ensures.within c.heads_end.ensures.ends last in
    c.loop-at.invariant found (last-within-front _ c.window_end.result found c.window_end.ensures.high c.window_end.ensures.ends window)

pub returns-in-Some-last_from : goal.returns-in-Some-last_from
returns-in-Some-last_from c = c.loop-at.invariant (Some c.in-Some-last_from.head) c.in-Some-last_from.ensures

pub loop-at-preserved : goal.loop-at-preserved
loop-at-preserved c = λ found last.
    let h = c.heads_end-else-window-rest.ensures in
    c.loop-at.invariant found (c.in_default-last_from.ensures found (last-within-front _ c.heads_end-else-window-rest.result found h.within h.ends last))

pub returns : goal.returns
returns c = c.loop-at.invariant None (IsLastTaken-none c.loop-at.rest.now (opening-none c.loop-at.rest.now c.in_default.ensures))

pub last_from-requires : goal.last_from-requires
last_from-requires c = search rules
