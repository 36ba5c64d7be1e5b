use Rattle.std.proofs.Common.{◌≡◌, ◌++◌, [], map}
use Rattle.std.specs.Slice.Iter.{iter_rest}
use Rattle.run_events.specs.UnitErrors.{error_seen, output_error}
use Rattle.run_events.proofs.unit_error.push_output_errors.Given as goal

-- the errors appended so far, then those that are left
abbrev pub invariant-loop-error : goal.invariant-loop-error
invariant-loop-error l =
    (map error_seen l.errors.items ++ map output_error (iter_rest l.error-iterator) ≡ map error_seen l.initial.errors.items ++ map output_error l.list.items)
    × (l.list.items ≡ [] → iter_rest l.error-iterator ≡ [])
