-- The states of a unit whose output is that of the current attempt.
use Rattle.std.specs.Prelude.{Bool, true, false}
use Rattle.run_events.specs.declared.events.unit_state.UnitState.{UnitState}
use Rattle.run_events.specs.declared.events.unit_state.UnitState.TheVariants as state

-- whether the output that comes with a state is that of the current attempt: in every state except the wait between two
-- attempts
abbrev pub state_has_output : UnitState → Bool
state_has_output (state.Running pid time_taken slow_after) = true
state_has_output (state.Exiting pid time_taken slow_after tentative_result waiting_duration remaining) = true
state_has_output (state.Terminating terminating) = true
state_has_output (state.Exited result time_taken slow_after) = true
state_has_output (state.DelayBeforeNextAttempt previous_result previous_slow waiting_duration remaining) = false
