use Rattle.std.proofs.Common.{◌∙◌, Some, codes, drop}
use Rattle.std.specs.Prelude.{◌&&◌}
use Rattle.test_report_events.proofs.Failures.{none_of_six, none_of_three, none_of_two, one_of_six, one_of_three, one_of_two}
use Rattle.test_report_events.specs.Cargo.{begins, failure_of, is_targets_failed}
use Rattle.test_report_events.specs.declared.event.CargoFailure.TheVariants.{Build, Run, Tests}
use Rattle.test_report_events.proofs.cargo.cargo_failure.Goals as goal

pub returns-then-reports_build : goal.returns-then-reports_build
unfolding failure_of
returns-then-reports_build c =
    let at = begins c.args.line.now in
    one_of_three (at (codes "error: could not compile ")) (at (codes "error: failed to run custom build command for "))
    (at (codes "error: build script logged errors")) (Some Build) _ c.reports_build.result c.reports_build.ensures c.if-reports_build.true

pub returns-then-reports_tests : goal.returns-then-reports_tests
unfolding failure_of
returns-then-reports_tests c =
    let at = begins c.args.line.now in
    one_of_six (at (codes "error: test failed")) (at (codes "error: doctest failed")) (at (codes "error: bench failed"))
    (at (codes "error: no test target named ")) (at (codes "error: creating test list failed")) (at (codes "error: setup script failed"))
    (Some Tests) _ c.reports_tests.result c.reports_tests.ensures c.if-reports_tests.true
    ∙ none_of_three (at (codes "error: could not compile ")) (at (codes "error: failed to run custom build command for "))
    (at (codes "error: build script logged errors")) (Some Build) _ c.reports_build.result c.reports_build.ensures c.if-reports_build.false

pub returns-then-reports_run : goal.returns-then-reports_run
unfolding failure_of
returns-then-reports_run c =
    let at = begins c.args.line.now in
    one_of_two (at (codes "error: test run failed")) (at (codes "error: ") && is_targets_failed (drop 7 c.args.line.now)) (Some Run) _
    c.reports_run.result c.reports_run.ensures c.if-reports_run.true
    ∙ (none_of_six (at (codes "error: test failed")) (at (codes "error: doctest failed")) (at (codes "error: bench failed"))
    (at (codes "error: no test target named ")) (at (codes "error: creating test list failed")) (at (codes "error: setup script failed"))
    (Some Tests) _ c.reports_tests.result c.reports_tests.ensures c.if-reports_tests.false
    ∙ none_of_three (at (codes "error: could not compile ")) (at (codes "error: failed to run custom build command for "))
    (at (codes "error: build script logged errors")) (Some Build) _ c.reports_build.result c.reports_build.ensures c.if-reports_build.false)

pub returns-else-reports_run : goal.returns-else-reports_run
unfolding failure_of
returns-else-reports_run c =
    let at = begins c.args.line.now in
    none_of_two (at (codes "error: test run failed")) (at (codes "error: ") && is_targets_failed (drop 7 c.args.line.now)) (Some Run) _
    c.reports_run.result c.reports_run.ensures c.if-reports_run.false
    ∙ (none_of_six (at (codes "error: test failed")) (at (codes "error: doctest failed")) (at (codes "error: bench failed"))
    (at (codes "error: no test target named ")) (at (codes "error: creating test list failed")) (at (codes "error: setup script failed"))
    (Some Tests) _ c.reports_tests.result c.reports_tests.ensures c.if-reports_tests.false
    ∙ none_of_three (at (codes "error: could not compile ")) (at (codes "error: failed to run custom build command for "))
    (at (codes "error: build script logged errors")) (Some Build) _ c.reports_build.result c.reports_build.ensures c.if-reports_build.false)
