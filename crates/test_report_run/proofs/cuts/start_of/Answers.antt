-- The longest start of a line that ends between characters.
use Rattle.std.proofs.Common.{◌∙◌, ap}
use Rattle.std.specs.List.{slice_range}
use Rattle.test_report_run_notes.proofs.Boundaries.{floor-is}
use Rattle.test_report_run.specs.LongestEnd.{cut_to}
use Rattle.test_report_run.proofs.cuts.start_of.Goals as goal

pub returns-clause-start : goal.returns-clause-start
unfolding cut_to
returns-clause-start c = c.range.ensures.value ∙ ap (λ n. slice_range c.args.line.now 0 n)
    (floor-is c.args.line.now c.args.most c.floor_char_boundary.result c.floor_char_boundary.ensures.bound c.floor_char_boundary.ensures.boundary
    c.floor_char_boundary.ensures.nearest)
