use Rattle.output_slice.proofs.TakenLemmas.{IsTaken-same, IsTaken-exists}
use Rattle.output_slice.proofs.laws.taken_heads_exist.Goals as goal

pub returns : goal.returns
returns c = λ b. let some = IsTaken-exists b in (some.0, some.1, λ other is. IsTaken-same b other some.0 is some.1)
