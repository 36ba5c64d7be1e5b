use Rattle.output_slice.proofs.DivisionLemmas.{note-none, note-line}
use Rattle.output_slice.proofs.heuristics.should_panic_before.Goals as goal

pub returns-in_err-at : goal.returns-in_err-at
returns-in_err-at c = rw c.from_residual.ensures (note-none c.args.stdout.now c.in_err-at.ensures)

pub returns : goal.returns
returns c =
    let s = c.line_start-start in
    let e = c.line_end-stop in
    rw c.without_end.ensures (note-line _ c.in_ok-at.at s.result e.result c.in_ok-at.ensures s.ensures.within s.ensures.first
    s.ensures.one_line e.ensures.low e.ensures.high e.ensures.last e.ensures.one_line)
