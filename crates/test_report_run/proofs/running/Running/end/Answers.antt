-- The test that ends is taken out.
use Rattle.std.proofs.Common.{◌≡◌, ◌∙◌, ℕ, Option, ap, false, option_map, refl, string_bytes, sym, true}
use Rattle.std.specs.List.{position, remove}
use Rattle.std.specs.Option.{option_map_or}
use Rattle.std.specs.Str.{bytes_eq}
use Rattle.test_report_run.proofs.FirstTests.{by_place, found_view, left_view, view_place}
use Rattle.test_report_run.proofs.Firsts.{IsFirst, first_place}
use Rattle.test_report_run.specs.Running.{RunningView, ended_at, has_name, running_test_view, tests_of}
use Rattle.test_report_run.specs.declared.running.RunningTest.{RunningTest}
use Rattle.test_report_run.proofs.running.Running.end.Goals as goal

pub returns-clause-found : goal.returns-clause-found
returns-clause-found c =
    let run = c.args.self.now in
    let order = c.in_ok-order.order in
    let attempts = c.in_ok-order.attempts in
    let named = c.in_ok-order.ensures.named in
    let name = named.0 in
    let first : IsFirst (λ t. has_name name (running_test_view t)) run.tests.entries order =
    first_place (λ t. has_name name (running_test_view t)) run.tests.entries order run.ordered named.1 named.2 in
    ap (λ (t : Option RunningTest). option_map {U = RunningView × ℕ} (λ v. (v, attempts)) (option_map running_test_view t)) c.in_ok-test.ensures.test
    ∙ ap (option_map {U = RunningView × ℕ} (λ v. (v, attempts))) (found_view (has_name name) run.tests.entries order first)
    ∙ view_place (tests_of run) attempts (position (has_name name) (tests_of run)) ∙ ap (option_map (ended_at (tests_of run))) (sym named.3)

pub returns-clause-left : goal.returns-clause-left
returns-clause-left c =
    let run = c.args.self.now in
    let order = c.in_ok-order.order in
    let named = c.in_ok-order.ensures.named in
    let name = named.0 in
    let first : IsFirst (λ t. has_name name (running_test_view t)) run.tests.entries order =
    first_place (λ t. has_name name (running_test_view t)) run.tests.entries order run.ordered named.1 named.2 in
    rw c.in_ok-test.ensures.left (left_view (has_name name) run.tests.entries order first
    ∙ by_place (remove (tests_of run)) (tests_of run) c.in_ok-order.attempts (position (has_name name) (tests_of run))
    ∙ ap (λ (p : Option (ℕ × ℕ)). option_map_or (λ place. remove (tests_of run) place.0) p (tests_of run)) (sym named.3))

pub returns-in_err-order-clause-found : goal.returns-in_err-order-clause-found
returns-in_err-order-clause-found c = rw (c.from_residual.ensures, c.in_err-order.ensures.none) refl

pub returns-in_err-order-clause-left : goal.returns-in_err-order-clause-left
returns-in_err-order-clause-left c = rw c.in_err-order.ensures.none refl

pub returns-in_err-test-clause-found : goal.returns-in_err-test-clause-found
returns-in_err-test-clause-found c =
    let named = c.in_ok-order.ensures.named in
    let lost : false ≡ true =
    ap (λ (t : Option RunningTest). option_map_or (λ t. bytes_eq (string_bytes t.name) named.0) t false) c.in_err-test.ensures.test ∙ named.1 in cc

pub returns-in_err-test-clause-left : goal.returns-in_err-test-clause-left
returns-in_err-test-clause-left c =
    let named = c.in_ok-order.ensures.named in
    let lost : false ≡ true =
    ap (λ (t : Option RunningTest). option_map_or (λ t. bytes_eq (string_bytes t.name) named.0) t false) c.in_err-test.ensures.test ∙ named.1 in cc
