-- The tests with one more.
use Rattle.std.proofs.Common.{◌≡◌, ◌∙◌, ◌+◌, ◌++◌, ◌∷◌, [], ℕ, None, ◌==◌, ◌<◌, false, ap, arith, rules, string_bytes, sym}
use Rattle.std.specs.BTreeMap.{get}
use Rattle.std.specs.Map.{values_of}
use Rattle.std.specs.Option.{IsSome, option_eq}
use Rattle.std.specs.Ordering.{nat_cmp}
use Rattle.std.specs.Str.{bytes_eq}
use Rattle.test_report_run.proofs.OrderSteps.{index_with, insert_last, none_at, now_below, place_with, view_last}
use Rattle.test_report_run.specs.Running.{running_view}
use Rattle.test_report_run.specs.declared.running.Running.{Running}
use Rattle.test_report_run.specs.declared.running.RunningTest.{RunningTest}
use Rattle.test_report_run.proofs.running.Running.begin.Goals as goal

pub invariant_of-running : goal.invariant_of-running
invariant_of-running c =
    let run = c.replace-running.result in
    let order = c.args.self.now.started in
    let since : run.started ≡ order = ap (λ (r : Running). r.started) c.replace-running.ensures.value in
    let under : (n : ℕ) → IsSome (get nat_cmp run.tests n) → n < order = λ n found. rw (sym since) (run.below n found) in
    let test : RunningTest = record { name = c.in_ok-from_str.field-0; suite = c.args.suite; order = order; slow = false } in
    let started : c.in_ok-started.started ≡ order + 1 = search rules in
    let gets = c.in_ok-insert-3.ensures.updates.0 in
    let none : (n : ℕ) → order ≡ n → get nat_cmp run.tests n ≡ None = λ n same. none_at (get nat_cmp run.tests n) order n (under n) same in
    record {
      ordered = c.in_ok-insert-3.ensures.ordered;
      below = λ n found. rw started (now_below _ _ test order n (gets n) (under n) found);
      named = λ name n. index_with (λ t. bytes_eq (string_bytes t.name) name) (get nat_cmp run.tests n) (get nat_cmp c.insert-3.new.self n) test order n _ _
          (gets n) (none n) (grind (arith, c.in_ok-insert.ensures name n, c.in_ok-from_str.ensures.ok)) (run.named name n);
      in_suites = λ suite n. index_with (λ t. option_eq (λ a b. a == b) t.suite suite)
          (get nat_cmp run.tests n) (get nat_cmp c.insert-3.new.self n) test order n _ _
          (gets n) (none n) (place_with c.args.suite suite order n _ _ (c.in_ok-insert-2.ensures.updates.0 (suite, n))) (run.in_suites suite n);
    }

pub returns-clause-tests : goal.returns-clause-tests
returns-clause-tests c =
    let run = c.args.self.now in
    let order = run.started in
    let test : RunningTest = record { name = c.in_ok-from_str.field-0; suite = c.args.suite; order = order; slow = false } in
    let last : c.insert-3.new.self.entries ≡ run.tests.entries ++ (order, test) ∷ [] =
    grind (arith, c.in_ok-insert-3.ensures.entries, insert_last run.tests.entries order test run.below) in
    let view = ap (λ es. running_view (values_of es)) last ∙ view_last run.tests.entries order test in
    let name : string_bytes c.in_ok-from_str.field-0 ≡ c.args.name.now = search rules in
    rw (← name) view
