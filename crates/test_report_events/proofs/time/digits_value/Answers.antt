use Rattle.std.proofs.Common.{arith}
use Rattle.test_report_events.proofs.Values.{value_next}
use Rattle.test_report_events.proofs.time.digits_value.Goals as goal

pub overflow_mul-value : goal.overflow_mul-value
overflow_mul-value c = grind (arith, value_next)

pub overflow_add-value : goal.overflow_add-value
overflow_add-value c = grind (arith, value_next)

pub loop-digit-preserved : goal.loop-digit-preserved
loop-digit-preserved c = grind (arith, value_next)
