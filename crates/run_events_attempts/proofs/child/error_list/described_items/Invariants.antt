use Rattle.std.proofs.Common.{◌≡◌, ◌+◌, ◌≤◌, ◌++◌, map, length, vec_len, vec_capacity}
use Rattle.std.specs.Vec.Iter.{into_iter_items}
use Rattle.run_events_attempts.specs.ChildErrors.{described_error}
use Rattle.run_events_attempts.proofs.child.error_list.described_items.Given as goal

-- the errors described so far, then those that are left, with room for them
abbrev pub invariant-loop-error : goal.invariant-loop-error
invariant-loop-error l =
    (l.room.items ++ map described_error (into_iter_items l.error-iterator) ≡ map described_error l.fn.errors.items)
    × (vec_len l.room + length (into_iter_items l.error-iterator) ≤ vec_capacity l.room)
