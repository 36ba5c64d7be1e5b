-- One more running test is parted.
use Rattle.std.proofs.Common.{◌≡◌, ◌∙◌, ◌&&◌, Bool, arith, false, is_none, not, refl, sym, true}
use Rattle.test_report_run.specs.Over.{crashes, early_end_of}
use Rattle.test_report_run.specs.Running.{RunningView, running_test_view}
use Rattle.test_report_run.specs.Suite.{state_of}
use Rattle.test_report_run.proofs.LoopSteps.{kept-more, left-more}
use Rattle.test_report_run.proofs.suite.Suite.parted.Goals.{else-is_none-via-then-is_none+else-crashes, else-is_none-via-else-is_none}
use Rattle.test_report_run.proofs.suite.Suite.parted.Goals as goal

both : (a b : Bool) → a ≡ true → b ≡ true → (a && b) ≡ true
both a b p q = rw (p, q) refl

first-false : (a b : Bool) → a ≡ false → (a && b) ≡ false
first-false a b p = rw p refl

second-false : (a b : Bool) → b ≡ false → (a && b) ≡ false
second-false true b p = p
second-false false b p = refl

not-true : (a : Bool) → a ≡ true → not a ≡ false
not-true a p = rw p refl

not-false : (a : Bool) → a ≡ false → not a ≡ true
not-false a p = rw p refl

pub loop-test-preserved-then-crashes : goal.loop-test-preserved-then-crashes
loop-test-preserved-then-crashes c =
    let test : RunningView → Bool = crashes (state_of c.args.self.now) (early_end_of c.args.how.now) in
    let runs : is_none c.args.self.now.cancel ≡ true = grind (arith, c.is_none.ensures, c.if-is_none.true) in
    let yes : test (running_test_view c.in-Some.test) ≡ true = both _ _ runs (sym c.crashes.ensures ∙ c.if-crashes.true) in (
      kept-more running_test_view test c.loop-test.yielded c.loop-test.crashed.items c.push.new.self.items c.in-Some.test c.loop-test.invariant.0
          yes c.in_ok-push.ensures.items,
      left-more running_test_view (λ t. not (test t)) c.loop-test.yielded c.loop-test.stopped.items c.in-Some.test c.loop-test.invariant.1
          (not-true _ yes),
    )

pub loop-test-preserved : goal.loop-test-preserved
loop-test-preserved c =
    let test : RunningView → Bool = crashes (state_of c.args.self.now) (early_end_of c.args.how.now) in
    let no : test (running_test_view c.in-Some.test) ≡ false = elim c.else-is_none.branch [
      | else-is_none-via-then-is_none+else-crashes w ↦ second-false _ _ (sym w.crashes.ensures ∙ w.if-crashes.false)
      | else-is_none-via-else-is_none w ↦
          let stops : is_none c.args.self.now.cancel ≡ false = grind (arith, c.is_none.ensures, w.if-is_none.false) in first-false _ _ stops
    ] in (
      left-more running_test_view test c.loop-test.yielded c.loop-test.crashed.items c.in-Some.test c.loop-test.invariant.0 no,
      kept-more running_test_view (λ t. not (test t)) c.loop-test.yielded c.loop-test.stopped.items c.push-else-is_none.new.self.items
          c.in-Some.test c.loop-test.invariant.1 (not-false _ no) c.in_ok-push-2.ensures.items,
    )
