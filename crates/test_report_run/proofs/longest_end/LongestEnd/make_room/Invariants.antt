-- Where the first lines are dropped.
use Rattle.std.proofs.Common.{◌≡◌, ◌++◌, ◌∷◌, [], ℕ, List, length, map, string_bytes}
use Rattle.test_report_run.specs.LongestEnd.{longest_end, most_bytes}
use Rattle.test_report_run.proofs.longest_end.LongestEnd.make_room.Given as goal

abbrev pub invariant-loop-self : goal.invariant-loop-self
invariant-loop-self l =
    (line : List ℕ) → length line ≡ l.size
    → longest_end most_bytes (map string_bytes l.self.lines.items ++ line ∷ []) ≡ longest_end most_bytes (map string_bytes l.fn.self.lines.items ++ line ∷ [])

abbrev pub decreases-loop-self : goal.decreases-loop-self
decreases-loop-self l = length (map string_bytes l.self.lines.items)
