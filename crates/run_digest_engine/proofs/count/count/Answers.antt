use Rattle.std.proofs.Common.{rules}
use Rattle.run_digest_engine.proofs.Readings.{named}
use Rattle.run_digest_engine.proofs.count.count.Goals as goal

pub returns-in_err-text-clause-bad_line : goal.returns-in_err-text-clause-bad_line
returns-in_err-text-clause-bad_line g c =
    named _ _ _ _ _ c.from_residual-in_err-text.ensures.1 c.in_ok-bytes.ensures.bytes c.as_slice.ensures.value c.in_err-text.ensures.refusal

pub returns-in_err-text-clause-kept : goal.returns-in_err-text-clause-kept
returns-in_err-text-clause-kept g c = search rules

pub returns-in_err-write_all-clause-answer : goal.returns-in_err-write_all-clause-answer
returns-in_err-write_all-clause-answer g c = search rules

pub returns-clause-answer : goal.returns-clause-answer
returns-clause-answer g c = search rules
