use Rattle.output_slice.proofs.Words.{◌-◌, length-drop, arith, take_rest}
use Rattle.output_slice.proofs.TrimLemmas.{space-behind}
use Rattle.output_slice.proofs.heuristics.spaces_start.Goals as goal

pub returns-in-Some-clause-spaces : goal.returns-in-Some-clause-spaces
returns-in-Some-clause-spaces c = λ k low up.
    let h = rw take_rest at c.in-Some.ensures in
    space-behind _ c.args.start k (omega arith) (grind (arith, length-drop, h.0.after (k - c.args.start)))

pub returns-in-None-clause-spaces : goal.returns-in-None-clause-spaces
returns-in-None-clause-spaces c = λ k low up.
    let h = rw take_rest at c.in-None.ensures in
    space-behind _ c.args.start k low (grind (arith, length-drop, h (k - c.args.start)))
