use Rattle.std.proofs.Common.{◌≡◌, ◌≤◌, ◌+◌, ℕ, length, take}
use Rattle.bstr.specs.Find.{OccursAt}
use Rattle.test_report_events.specs.Time.{time_key}
use Rattle.test_report_events.proofs.time.last_key.Given as goal

abbrev pub invariant-loop-colon : goal.invariant-loop-colon
invariant-loop-colon l =
    (length l.rest ≤ length l.line) × (l.rest ≡ take (length l.rest) l.line) × ((k : ℕ) → OccursAt l.line time_key k → k + 12 ≤ length l.rest)

abbrev pub decreases-loop-colon : goal.decreases-loop-colon
decreases-loop-colon l = length l.rest
