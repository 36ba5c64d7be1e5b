use Rattle.output_slice.proofs.Words.{◌∙◌}
use Rattle.output_slice.proofs.FirstLemmas.{first-found, first-none, none-first, none-more}
use Rattle.output_slice.proofs.SearchLemmas.{searched-first, searched-none}
use Rattle.output_slice.proofs.first_head.first_head.Goals as goal

pub loop-next-init : goal.loop-next-init
loop-next-init c =
    let n = rw c.new-source.ensures at c.next_quote-next.ensures in
    (n.same, searched-first _ _ _ _ n.found n.fits n.reads, none-first _)

pub returns-in-Some-opened_head_end : goal.returns-in-Some-opened_head_end
returns-in-Some-opened_head_end c =
    let i = c.loop-next.invariant in
    let searched = rw c.in-Some.is at i.1 in
    let o = rw (c.next_quote-close.ensures.same ∙ i.0) at c.in-Some-opened_head_end.ensures.value in
    first-found _ _ _ _ i.2 searched.is_next o

pub loop-next-preserved : goal.loop-next-preserved
loop-next-preserved c =
    let i = c.loop-next.invariant in
    let one = i.0 in
    let two = c.next_quote-close.ensures.same ∙ one in
    let n = c.next_quote-close.ensures in
    let o = c.opened_head_end.ensures in
    let searched = rw c.in-Some.is at i.1 in
    let none = rw two at c.in_default-opened_head_end.ensures.value in
    let more = searched-none _ _ _ _ _ _ _ _ _ searched (rw one at n.found) n.fits (rw one at n.reads)
    none o.opened (rw two at o.line) (rw two at c.in_default-opened_head_end.ensures.reads) c.in_default-opened_head_end.ensures.all in
    (o.same ∙ two, more, none-more _ _ _ i.2 searched.is_next none)

pub returns : goal.returns
returns c = let i = c.loop-next.invariant in let searched = rw c.in_default.is at i.1 in first-none _ _ i.2 searched.is_next
