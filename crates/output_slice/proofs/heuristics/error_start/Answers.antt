use Rattle.std.proofs.Common.{codes}
use Rattle.output_slice.proofs.OccursLemmas.{first-none, first-later}
use Rattle.output_slice.proofs.heuristics.error_start.Goals as goal

pub returns-in_err-feed : goal.returns-in_err-feed
returns-in_err-feed c = rw c.from_residual.ensures (first-none _ (codes "Error: ") (λ h. absurd (cc (c.starts_with_str.ensures.1 h))) c.in_err-feed.ensures)

pub returns : goal.returns
returns c = first-later _ (codes "Error: ") c.in_ok-feed.feed (λ h. absurd (cc (c.starts_with_str.ensures.1 h))) c.in_ok-feed.ensures
