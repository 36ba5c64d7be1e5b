use Rattle.std.proofs.Common.{arith}
use Rattle.output_slice.proofs.OccursLemmas.{reads}
use Rattle.output_slice.proofs.TrimLemmas.{widened-some, widened-other}
use Rattle.output_slice.proofs.heuristics.widened.Goals as goal

pub returns-then-starts_with_str-clause-value : goal.returns-then-starts_with_str-clause-value
returns-then-starts_with_str-clause-value c =
    let e = c.breaks_start-end.ensures in
    widened-some _ _ _ e.within c.requires e.breaks e.text c.in-Some.at c.in-Some.ensures (c.starts_with_str.ensures.0 c.if-starts_with_str.true)

pub returns-else-starts_with_str-clause-value : goal.returns-else-starts_with_str-clause-value
returns-else-starts_with_str-clause-value c =
    let e = c.breaks_start-end.ensures in
    widened-other _ _ _ e.within c.requires e.breaks e.text c.in-Some.at c.in-Some.ensures (λ h. absurd (cc (c.starts_with_str.ensures.1 h)))

pub returns-in_default-clause-value : goal.returns-in_default-clause-value
returns-in_default-clause-value c = grind (arith, reads)
