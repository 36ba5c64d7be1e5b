-- The test that started first.
use Rattle.std.proofs.Common.{arith}
use Rattle.std.specs.Map.{values_of}
use Rattle.std.proofs.lemmas.Option.{slice_get-map}
use Rattle.test_report_run.specs.Running.{running_test_view}
use Rattle.test_report_run.proofs.running.Running.first.Goals as goal

pub returns : goal.returns
returns c =
    let es = c.args.self.now.tests.entries in
    rw (slice_get-map running_test_view (values_of es) 0, slice_get-map (λ e. e.1) es 0) (grind (arith, c.in_ok-test.ensures.first))
