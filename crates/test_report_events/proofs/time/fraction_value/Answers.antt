use Rattle.std.proofs.Common.{arith}
use Rattle.test_report_events.proofs.Values.{fraction_bound, fraction_is}
use Rattle.test_report_events.proofs.time.fraction_value.Goals as goal

pub digits_value-requires-clause-fits : goal.digits_value-requires-clause-fits
digits_value-requires-clause-fits c = (fraction_bound c.args.digits.now c.min-size.result c.requires c.min-size.ensures).0

pub overflow_mul-result : goal.overflow_mul-result
overflow_mul-result c =
    omega (arith, (fraction_is c.args.digits.now c.min-size.result _ _ c.requires c.min-size.ensures c.digits_value.ensures c.pow.ensures).0)

pub returns-clause-value : goal.returns-clause-value
returns-clause-value c =
    (fraction_is c.args.digits.now c.min-size.result _ _ c.requires c.min-size.ensures c.digits_value.ensures c.pow.ensures).1

pub returns-clause-bound : goal.returns-clause-bound
returns-clause-bound c =
    (fraction_is c.args.digits.now c.min-size.result _ _ c.requires c.min-size.ensures c.digits_value.ensures c.pow.ensures).0
