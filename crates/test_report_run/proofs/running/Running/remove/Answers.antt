-- The indexes without a test.
use Rattle.std.proofs.Common.{◌≡◌, ◌∙◌, Some, ap, arith, rules, string_bytes, sym}
use Rattle.std.specs.BTreeMap.{get}
use Rattle.std.specs.Option.{option_eq}
use Rattle.std.specs.Ordering.{nat_cmp}
use Rattle.std.specs.Str.{bytes_eq}
use Rattle.std.proofs.Common.{◌==◌}
use Rattle.test_report_run.proofs.OrderSteps.{index_without, place_without, still_below}
use Rattle.test_report_run.proofs.running.Running.remove.Goals as goal

pub invariant_of-self-2 : goal.invariant_of-self-2
invariant_of-self-2 c =
    let run = c.args.self.now in
    let order = c.args.order in
    let test = c.in_ok-test.test in
    let gets = c.in_ok-test.ensures.updates.0 in
    let was : get nat_cmp run.tests order ≡ Some test = search rules in
    record {
      ordered = c.in_ok-test.ensures.ordered;
      below = λ n found. still_below (get nat_cmp run.tests n) (get nat_cmp c.remove.new.self n) _ _ (gets n) (run.below n) found;
      named = λ name n. index_without (λ t. bytes_eq (string_bytes t.name) name) (get nat_cmp run.tests n) (get nat_cmp c.remove.new.self n) test order n _ _
          (gets n) (λ same. ap (λ k. get nat_cmp run.tests k) (sym same) ∙ was)
          (grind (arith, c.remove-2.ensures name n, c.as_str.ensures.value)) (run.named name n);
      in_suites = λ suite n. index_without (λ t. option_eq (λ a b. a == b) t.suite suite)
          (get nat_cmp run.tests n) (get nat_cmp c.remove.new.self n) test order n _ _
          (gets n) (λ same. ap (λ k. get nat_cmp run.tests k) (sym same) ∙ was)
          (place_without test.suite suite order n _ _ (c.remove-3.ensures.updates.0 (suite, n))) (run.in_suites suite n);
    }
