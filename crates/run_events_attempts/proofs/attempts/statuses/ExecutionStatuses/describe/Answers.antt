use Rattle.run_events_attempts.proofs.LastAttempt.{has-final-level, levels-described, success-described}
use Rattle.run_events_attempts.proofs.attempts.statuses.ExecutionStatuses.describe.Goals as goal

pub returns-clause-level : goal.returns-clause-level
returns-clause-level g c = (levels-described c.args.self.now c.of_attempts.result (rw c.as_slice.ensures.value at c.of_attempts.ensures)).0

pub returns-clause-final_level : goal.returns-clause-final_level
returns-clause-final_level g c = (levels-described c.args.self.now c.of_attempts.result (rw c.as_slice.ensures.value at c.of_attempts.ensures)).1

pub returns-clause-success : goal.returns-clause-success
returns-clause-success g c = success-described c.args.self.now c.of_attempts.result (rw c.as_slice.ensures.value at c.of_attempts.ensures)

pub returns-clause-has_final_level : goal.returns-clause-has_final_level
returns-clause-has_final_level g c = has-final-level c.args.self.now c.of_attempts.result (rw c.as_slice.ensures.value at c.of_attempts.ensures)
