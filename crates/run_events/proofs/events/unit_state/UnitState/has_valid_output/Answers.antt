use Rattle.std.proofs.Common.{rules}
use Rattle.run_events.proofs.events.unit_state.UnitState.has_valid_output.Goals as goal

pub returns-in-DelayBeforeNextAttempt : goal.returns-in-DelayBeforeNextAttempt
returns-in-DelayBeforeNextAttempt c = search rules
