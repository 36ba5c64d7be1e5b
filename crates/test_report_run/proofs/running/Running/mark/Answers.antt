-- The indexes with a test that is slow.
use Rattle.std.proofs.Common.{◌≡◌, ◌∙◌, Some, ap, refl, rules, string_bytes, sym, true}
use Rattle.std.specs.BTreeMap.{get}
use Rattle.std.specs.Option.{option_eq}
use Rattle.std.specs.Ordering.{nat_cmp}
use Rattle.std.specs.Str.{bytes_eq}
use Rattle.std.proofs.Common.{◌==◌}
use Rattle.test_report_run.proofs.OrderSteps.{index_kept, some_kept}
use Rattle.test_report_run.specs.declared.running.RunningTest.{RunningTest}
use Rattle.test_report_run.proofs.running.Running.mark.Goals as goal

pub invariant_of-self-2 : goal.invariant_of-self-2
invariant_of-self-2 c =
    let run = c.args.self.now in
    let order = c.args.order in
    let test = c.in_ok-test.test.now in
    let after : RunningTest = record test { slow = true } in
    let now = c.get_mut.follows.lender after in
    let was : get nat_cmp run.tests order ≡ Some test = search rules in
    let gets = ((c.get_mut.follows.holds after).3 (rw was refl)).0 in
    record {
      ordered = (c.get_mut.follows.holds after).4;
      below = λ n found. run.below n (some_kept (get nat_cmp run.tests n) (get nat_cmp now n) test after order n (gets n)
          (λ same. ap (λ k. get nat_cmp run.tests k) (sym same) ∙ was) found);
      named = λ name n. run.named name n ∙ index_kept (λ t. bytes_eq (string_bytes t.name) name)
          (get nat_cmp run.tests n) (get nat_cmp now n) test after order n
          (gets n) (λ same. ap (λ k. get nat_cmp run.tests k) (sym same) ∙ was) refl;
      in_suites = λ suite n. run.in_suites suite n ∙ index_kept (λ t. option_eq (λ a b. a == b) t.suite suite)
          (get nat_cmp run.tests n) (get nat_cmp now n) test after order n
          (gets n) (λ same. ap (λ k. get nat_cmp run.tests k) (sym same) ∙ was) refl;
    }
