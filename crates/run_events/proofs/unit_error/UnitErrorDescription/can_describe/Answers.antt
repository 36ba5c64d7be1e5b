use Rattle.std.proofs.Common.{rules}
use Rattle.run_events.proofs.unit_error.UnitErrorDescription.can_describe.Goals as goal

pub returns-then-not-failed_test : goal.returns-then-not-failed_test
returns-then-not-failed_test c = search rules
