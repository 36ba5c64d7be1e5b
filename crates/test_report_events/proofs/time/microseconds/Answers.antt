use Rattle.std.proofs.Common.{arith}
use Rattle.test_report_events.proofs.Values.{value_short}
use Rattle.test_report_events.proofs.time.microseconds.Goals as goal

pub digits_value-requires-clause-fits : goal.digits_value-requires-clause-fits
digits_value-requires-clause-fits c = grind (arith, value_short)

pub overflow_mul-result : goal.overflow_mul-result
overflow_mul-result c = grind (arith, value_short)

pub overflow_add-result : goal.overflow_add-result
overflow_add-result c = grind (arith, value_short)
