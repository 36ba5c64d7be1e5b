-- Where the lines are joined.
use Rattle.std.proofs.Common.{◌≡◌, ◌==◌, length, map, string_bytes}
use Rattle.test_report_run.specs.LongestEnd.{joined}
use Rattle.test_report_run.proofs.longest_end.LongestEnd.text.Given as goal

abbrev pub invariant-loop-line : goal.invariant-loop-line
invariant-loop-line l =
    (l.is_first ≡ (length l.yielded == 0)) × (string_bytes l.text ≡ joined (map (λ line. string_bytes line.now) l.yielded))
