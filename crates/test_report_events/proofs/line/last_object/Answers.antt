use Rattle.std.proofs.Common.{None, Some, codes, subst}
use Rattle.bstr.specs.Find.{FindsLastNeedle, OccursAt}
use Rattle.test_report_events.proofs.LastAt.{last-of-both, needle-found, only-first, only-second}
use Rattle.test_report_events.proofs.line.last_object.Goals as goal

pub returns-in-Some-Some : goal.returns-in-Some-Some
returns-in-Some-Some c =
    let line = c.args.line.now in
    last-of-both (OccursAt line (codes "{ \"type\"")) (OccursAt line (codes "{\"type\"")) _ _ _
    (needle-found line (codes "{ \"type\"") (Some _) c.in-Some-Some.ensures)
    (needle-found line (codes "{\"type\"") (Some _) c.in-Some-Some.ensures') c.max.ensures

pub returns-in-Some-None : goal.returns-in-Some-None
returns-in-Some-None c =
    let line = c.args.line.now in
    only-first (OccursAt line (codes "{ \"type\"")) (OccursAt line (codes "{\"type\"")) _
    (needle-found line (codes "{ \"type\"") (Some _) c.in-Some-None.ensures) (needle-found line (codes "{\"type\"") None c.in-Some-None.ensures')

pub returns-in-None-default : goal.returns-in-None-default
returns-in-None-default c =
    let line = c.args.line.now in
    only-second (OccursAt line (codes "{ \"type\"")) (OccursAt line (codes "{\"type\"")) _
    (needle-found line (codes "{ \"type\"") None (subst (FindsLastNeedle line _) c.in-None-default.is-0 c.rfind.ensures))
    (needle-found line (codes "{\"type\"") _ c.rfind-2.ensures)
