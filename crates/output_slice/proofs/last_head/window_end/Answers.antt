use Rattle.output_slice.proofs.CutLemmas.{window-end}
use Rattle.output_slice.proofs.last_head.window_end.Goals as goal

pub returns-clause-ends : goal.returns-clause-ends
returns-clause-ends c = window-end _ c.args.at c.requires _ _ _ c.next_byte.ensures c.unwrap_or.ensures c.line_end.ensures.low c.line_end.ensures.last
