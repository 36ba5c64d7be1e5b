use Rattle.output_slice.proofs.Words.{arith, Some, slice_of, IsPanicSlice}
use Rattle.output_slice.proofs.HeadLemmas.{head-order}
use Rattle.output_slice.proofs.TakenLemmas.{IsLastTaken-head}
use Rattle.output_slice.proofs.SameLemmas.{IsPanicSlice-same, IsPanicSlice-part}
use Rattle.output_slice.proofs.heuristics.heuristic_panic_message.Goals as goal

pub widened-start-requires : goal.widened-start-requires
widened-start-requires c =
    let order = head-order _ _ _ (IsLastTaken-head _ c.in_ok-head.head c.in_ok-head.ensures.last) in
    omega (arith, order)

pub returns : goal.returns
returns c =
    let value : IsPanicSlice c.args.stderr.now (Some (slice_of c.trimmed.result)) =
    (c.in_ok-head.head, c.in_ok-head.ensures.last, rw c.trimmed.ensures.start c.widened-start.ensures.value, c.trimmed.ensures.trimmed) in
    record { value = value; only = λ found is. IsPanicSlice-same _ found _ is value; part = IsPanicSlice-part _ _ value }
