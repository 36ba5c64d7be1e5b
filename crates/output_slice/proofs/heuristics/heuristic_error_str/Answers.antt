use Rattle.output_slice.specs.Slices.{IsErrorSlice}
use Rattle.output_slice.proofs.SameLemmas.{IsErrorSlice-same, IsErrorSlice-part, found-part}
use Rattle.output_slice.proofs.heuristics.heuristic_error_str.Goals as goal

pub returns-clause-only : goal.returns-clause-only
returns-clause-only c = λ found is. IsErrorSlice-same _ found _ is c.error_str_before.ensures

pub returns-clause-part : goal.returns-clause-part
returns-clause-part c = found-part IsErrorSlice IsErrorSlice-part _ c.error_str_before.result c.error_str_before.ensures
