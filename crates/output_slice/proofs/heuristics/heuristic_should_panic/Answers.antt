use Rattle.output_slice.specs.Slices.{IsNoteLine}
use Rattle.output_slice.proofs.SameLemmas.{IsNoteLine-same, IsNoteLine-part, found-part}
use Rattle.output_slice.proofs.heuristics.heuristic_should_panic.Goals as goal

pub returns-clause-only : goal.returns-clause-only
returns-clause-only c = λ found is. IsNoteLine-same _ found _ is c.should_panic_before.ensures

pub returns-clause-part : goal.returns-clause-part
returns-clause-part c = found-part IsNoteLine IsNoteLine-part _ c.should_panic_before.result c.should_panic_before.ensures
