use Rattle.std.proofs.Common.{arith}
use Rattle.output_slice.proofs.CutLemmas.{heads-end}
use Rattle.output_slice.proofs.signs.heads_end.Goals as goal

pub returns-in-Some-clause-ends : goal.returns-in-Some-clause-ends
returns-in-Some-clause-ends c = heads-end c.args.bytes.now _ (λ at h. let after = c.in-Some.ensures.0.after at in grind arith)

pub returns-in-None-clause-ends : goal.returns-in-None-clause-ends
returns-in-None-clause-ends c = heads-end c.args.bytes.now 0 (λ at h. absurd (c.in-None.ensures at (omega arith) (omega (arith, h.fits)) h))
