use Rattle.std.proofs.Common.{arith}
use Rattle.output_slice.proofs.signs.are_quiet_between.Goals as goal

pub returns-then-is_quiet_between : goal.returns-then-is_quiet_between
returns-then-is_quiet_between c = λ yes.
    let error = c.is_quiet_between.ensures c.if-is_quiet_between.true in
    let note = c.is_quiet_between-then-is_quiet_between.ensures yes in
    grind arith
