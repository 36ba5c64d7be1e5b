use Rattle.output_slice.proofs.TrimLemmas.{IsTrimmedSlice-front}
use Rattle.output_slice.proofs.heuristics.trimmed.Goals as goal

pub returns-clause-trimmed : goal.returns-clause-trimmed
returns-clause-trimmed c =
    let e = c.spaces_start-end.ensures in rw c.trim_end.ensures (IsTrimmedSlice-front _ c.args.start _ e.low e.within e.spaces)
