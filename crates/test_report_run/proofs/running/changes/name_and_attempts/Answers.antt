-- The name stands before the last `#`, and the number after it.
use Rattle.std.proofs.Common.{sym}
use Rattle.test_report_run.proofs.Attempts.{split-none, split-other, split-some}
use Rattle.test_report_run.proofs.running.changes.name_and_attempts.Goals as goal

pub returns-in_err-name : goal.returns-in_err-name
returns-in_err-name c = rw c.from_residual.ensures (sym (split-none c.args.written.now c.in_err-name.ensures.cases))

pub returns-in_err-attempts : goal.returns-in_err-attempts
returns-in_err-attempts c =
    rw c.from_residual-in_err-attempts.ensures (
    sym (split-other c.args.written.now c.in_ok-name.name.now c.in_ok-name.digits.now c.in_ok-name.ensures.cases c.in_err-attempts.ensures)
    )

pub returns : goal.returns
returns c =
    sym (split-some c.args.written.now c.in_ok-name.name.now c.in_ok-name.digits.now c.in_ok-attempts.attempts
    c.in_ok-name.ensures.cases c.in_ok-attempts.ensures)
