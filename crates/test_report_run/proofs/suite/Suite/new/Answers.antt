-- A suite after its first line.
use Rattle.std.proofs.Common.{◌∙◌, refl}
use Rattle.test_report_run.proofs.suite.Suite.new.Goals as goal

pub returns : goal.returns
returns c =
    let name = c.in_ok-name.ensures in
    c.named.ensures ∙ rw (name.number, name.key, name.heading, c.print_place.ensures, c.event_place.ensures) refl
