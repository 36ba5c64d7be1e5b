use Rattle.std.proofs.Common.{subst}
use Rattle.std.proofs.lemmas.Result.{IfOk-weaker}
use Rattle.test_report_events.proofs.Readings.{holds_later, holds_none}
use Rattle.test_report_events.specs.Table.{IsValueOf}
use Rattle.test_report_events.proofs.line.value_in.Goals as goal

pub returns-in-Some-last_object : goal.returns-in-Some-last_object
returns-in-Some-last_object c =
    let whole = subst (IsValueOf c.args.bytes.now) c.in-None.is c.in_ok-value.ensures in
    IfOk-weaker c.value_at.result _ _
    (λ found. holds_later c.args.bytes.now c.in-Some-last_object.at found whole c.in-Some-last_object.ensures) c.value_at.ensures

pub returns-in-None-last_object : goal.returns-in-None-last_object
returns-in-None-last_object c =
    holds_none c.args.bytes.now (subst (IsValueOf c.args.bytes.now) c.in-None.is c.in_ok-value.ensures) c.in-None-last_object.ensures
