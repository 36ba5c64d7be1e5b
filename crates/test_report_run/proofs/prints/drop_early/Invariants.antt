-- Where the first prints are dropped.
use Rattle.std.proofs.Common.{◌≡◌, map, vec_len}
use Rattle.test_report_run.specs.Prints.{last_three, last_view}
use Rattle.test_report_run.proofs.prints.drop_early.Given as goal

abbrev pub invariant-loop-prints : goal.invariant-loop-prints
invariant-loop-prints l = last_three (map last_view l.prints.items) ≡ last_three (map last_view l.fn.prints.items)

abbrev pub decreases-loop-prints : goal.decreases-loop-prints
decreases-loop-prints l = vec_len l.prints
