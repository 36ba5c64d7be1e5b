use Rattle.output_slice.proofs.Words.{◌-◌, ◌≡◌, ℕ, List, ◌∙◌, arith, None, Option, HeadSpan, IsLastTaken}
use Rattle.output_slice.proofs.SearchLemmas.{Searched, searched-first, searched-none, searched-found, settled-done}
use Rattle.output_slice.proofs.HeadLemmas.{head-order}
use Rattle.output_slice.proofs.TakenLemmas.{IsLastTaken-only, IsLastTaken-some}
use Rattle.output_slice.proofs.panic_head.last_panic_head.Goals as goal

pub loop-next-init : goal.loop-next-init
loop-next-init g c = grind (arith, searched-first)

pub loop-next-smaller-in-Some-opened_head_end : goal.loop-next-smaller-in-Some-opened_head_end
loop-next-smaller-in-Some-opened_head_end g c =
    let same = c.next_quote-close.ensures.same ∙ c.loop-next.invariant.0 in
    let v = rw same at c.in-Some-opened_head_end.ensures.value in
    let order = head-order _ (c.in-Some.quote - 7) c.in-Some-opened_head_end.stop v.1 in
    omega (arith, v.0, v.1.ends)

pub loop-next-preserved-in-Some-opened_head_end : goal.loop-next-preserved-in-Some-opened_head_end
loop-next-preserved-in-Some-opened_head_end g c =
    let one = c.loop-next.invariant.0 in
    let two = c.next_quote-close.ensures.same ∙ one in
    let three = c.opened_head_end.ensures.same ∙ two in
    let n = c.next_quote-close.ensures in
    let m = c.next_quote-next-in-Some-opened_head_end.ensures in
    let o = c.in-Some-opened_head_end.ensures in
    let more = searched-found _ _ _ _ _ _ _ _ _ _ _ _ (rw c.in-Some.is at c.loop-next.invariant.1) (rw one at n.found) (rw one at n.reads)
    (rw two at o.value) (rw two at o.reads) o.all (rw three at m.found) m.fits (rw three at m.reads) in
    (m.same ∙ three, more)

pub loop-next-preserved : goal.loop-next-preserved
loop-next-preserved g c =
    let one = c.loop-next.invariant.0 in
    let two = c.next_quote-close.ensures.same ∙ one in
    let n = c.next_quote-close.ensures in
    let o = c.opened_head_end.ensures in
    let more = searched-none _ _ _ _ _ _ _ _ _ (rw c.in-Some.is at c.loop-next.invariant.1) (rw one at n.found) n.fits (rw one at n.reads)
    (rw two at c.in-None.ensures.value) o.opened (rw two at o.line) (rw two at c.in-None.ensures.reads) c.in-None.ensures.all in
    (o.same ∙ two, more)

done : (b : List ℕ) (old new place : ℕ) (next : Option ℕ) (last : Option HeadSpan) → next ≡ None → Searched b old new place next last → IsLastTaken b last
done b old new place next last none h = grind (arith, settled-done)

pub returns-clause-last : goal.returns-clause-last
returns-clause-last g c = done _ _ _ _ _ _ c.in_default.is c.loop-next.invariant.1

pub returns-clause-only : goal.returns-clause-only
returns-clause-only g c = λ taken is. IsLastTaken-only _ _ taken (done _ _ _ _ _ _ c.in_default.is c.loop-next.invariant.1) is

pub returns-clause-found : goal.returns-clause-found
returns-clause-found g c = IsLastTaken-some _ _ (done _ _ _ _ _ _ c.in_default.is c.loop-next.invariant.1)
