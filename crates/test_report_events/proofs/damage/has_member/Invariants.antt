use Rattle.std.proofs.Common.{◌≤◌, length}
use Rattle.test_report_events.specs.Damage.{HasMember}
use Rattle.test_report_events.proofs.damage.has_member.Given as goal

abbrev pub invariant-loop-at : goal.invariant-loop-at
invariant-loop-at l =
    (length l.rest ≤ length l.text)
    × (HasMember l.text l.key l.value → HasMember l.rest l.key l.value)
    × (HasMember l.rest l.key l.value → HasMember l.text l.key l.value)

abbrev pub decreases-loop-at : goal.decreases-loop-at
decreases-loop-at l = length l.rest
