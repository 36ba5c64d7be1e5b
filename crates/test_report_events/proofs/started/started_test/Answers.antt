use Rattle.test_report_events.proofs.StartLines.{start-says}
use Rattle.test_report_events.proofs.started.started_test.Goals as goal

pub returns-in-Ok : goal.returns-in-Ok
returns-in-Ok c =
    let found = c.in-Ok.ensures.cases in
    let says = start-says c.args.line.now c.in_ok-name.name.now c.in_ok-name.ensures ((c.are_plain.ensures).0 c.if-not-are_plain.false) found.1 in
    rw found.0 says
