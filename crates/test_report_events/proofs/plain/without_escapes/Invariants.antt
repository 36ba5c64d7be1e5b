use Rattle.std.proofs.Common.{length, ◌-◌, ◌≤◌, ◌++◌, ℕ, List, drop}
use Rattle.test_report_events.specs.Plain.{IsWithoutEscapes}
use Rattle.test_report_events.proofs.plain.without_escapes.Given as goal

abbrev pub invariant-loop-at : goal.invariant-loop-at
invariant-loop-at l =
    (l.at ≤ length l.line) × ((text : List ℕ) → IsWithoutEscapes (drop l.at l.line) text → IsWithoutEscapes l.line (l.kept.items ++ text))

abbrev pub decreases-loop-at : goal.decreases-loop-at
decreases-loop-at l = length l.line - l.at
