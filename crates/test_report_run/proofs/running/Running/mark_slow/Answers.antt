-- The test that a line calls slow is slow.
use Rattle.std.proofs.Common.{◌∙◌, ℕ, Option, ap, option_map, refl, sym}
use Rattle.std.specs.List.{position}
use Rattle.std.specs.Option.{option_map_or}
use Rattle.test_report_run.proofs.FirstTests.{by_place, map_place, slow_view, suite_view}
use Rattle.test_report_run.proofs.Firsts.{IsFirst, first_place}
use Rattle.test_report_run.specs.Running.{has_name, running_at, running_test_view, tests_of, with_slow}
use Rattle.test_report_run.proofs.running.Running.mark_slow.Goals as goal

pub returns-clause-suite : goal.returns-clause-suite
returns-clause-suite c =
    let run = c.args.self.now in
    let order = c.in_ok-order.order in
    let named = c.in_ok-order.ensures.named in
    let name = named.0 in
    let first : IsFirst (λ t. has_name name (running_test_view t)) run.tests.entries order =
    first_place (λ t. has_name name (running_test_view t)) run.tests.entries order run.ordered named.1 named.2 in
    c.mark.ensures.suite ∙ suite_view (has_name name) run.tests.entries order first
    ∙ map_place (λ at. (running_at (tests_of run) at).suite) c.in_ok-order.field-0-1 (position (has_name name) (tests_of run))
    ∙ ap (λ (p : Option (ℕ × ℕ)). option_map (λ place. (running_at (tests_of run) place.0).suite) p) (sym named.3)

pub returns-clause-marks : goal.returns-clause-marks
returns-clause-marks c =
    let run = c.args.self.now in
    let order = c.in_ok-order.order in
    let named = c.in_ok-order.ensures.named in
    let name = named.0 in
    let first : IsFirst (λ t. has_name name (running_test_view t)) run.tests.entries order =
    first_place (λ t. has_name name (running_test_view t)) run.tests.entries order run.ordered named.1 named.2 in
    slow_view (has_name name) run.tests.entries c.mark.new.self.tests.entries order first c.mark.ensures.marks
    ∙ by_place (with_slow (tests_of run)) (tests_of run) c.in_ok-order.field-0-1 (position (has_name name) (tests_of run))
    ∙ ap (λ (p : Option (ℕ × ℕ)). option_map_or (λ place. with_slow (tests_of run) place.0) p (tests_of run)) (sym named.3)

pub returns-in_err-order-clause-suite : goal.returns-in_err-order-clause-suite
returns-in_err-order-clause-suite c = rw (c.from_residual.ensures, c.in_err-order.ensures.none) refl

pub returns-in_err-order-clause-marks : goal.returns-in_err-order-clause-marks
returns-in_err-order-clause-marks c = rw c.in_err-order.ensures.none refl
