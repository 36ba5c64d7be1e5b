use Rattle.output_slice.proofs.Words.{◌≡◌, None, arith}
use Rattle.output_slice.proofs.OccursLemmas.{quiet-block}
use Rattle.output_slice.proofs.signs.is_quiet_between.Goals as goal

pub returns : goal.returns
returns c = λ yes.
    let none : c.first_match.result ≡ None = grind arith in
    quiet-block _ _ _ _ c.requires.quiet c.reach.ensures c.args.start (rw none at c.first_match.ensures)
