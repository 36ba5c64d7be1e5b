use Rattle.std.proofs.Common.{codes}
use Rattle.output_slice.proofs.OccursLemmas.{occurs-rest}
use Rattle.output_slice.proofs.last_head.is_opening.Goals as goal

pub returns-then-is_line_start : goal.returns-then-is_line_start
returns-then-is_line_start c =
    let rest = occurs-rest c.args.bytes.now (codes "thread '") c.args.at c.requires in
    let starts = c.starts_with_str.ensures in
    (λ yes. (c.is_line_start.ensures.0 c.if-is_line_start.true, rest.0 (starts.0 yes)), λ here. starts.1 (rest.1 here.1))
