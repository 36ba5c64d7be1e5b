use Rattle.std.proofs.Common.{subst, sym}
use Rattle.test_report_events.proofs.Readings.{start_tells, whole_line}
use Rattle.test_report_events.specs.Content.{content_event}
use Rattle.test_report_events.specs.Line.{HoldsEvent}
use Rattle.test_report_events.proofs.line.Line.read.Goals as goal

pub returns-in-Some : goal.returns-in-Some
returns-in-Some c =
    let bytes = c.args.bytes.now in
    let e = content_event c.in_ok-content.content in
    let holds = subst (HoldsEvent bytes 0) (sym c.in_ok-content.ensures) c.in-Some.ensures in
    record { says = whole_line bytes e holds; rest = (e, holds); tells = start_tells bytes 0 c.in-Some.name.now c.in-Some.ensures }
