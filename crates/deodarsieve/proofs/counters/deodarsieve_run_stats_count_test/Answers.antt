use Rattle.std.proofs.Common.{rules, ◌≡◌, Some, refl}
use Rattle.c_values.specs.Layout.{test_counted}
use Rattle.run_events_results.specs.ViewedTest.{said_of}
use Rattle.run_events_stats.specs.Counters.{TestCountersFit, with_test}
use Rattle.deodarsieve.proofs.counters.deodarsieve_run_stats_count_test.Goals as goal

-- all codes are in their tables, and the counters with one more test fit
pub returns-clause-ok : goal.returns-clause-ok
returns-clause-ok c =
    let counted : test_counted c.args.stats.now c.args.test.now ≡ Some (with_test c.in-Some.counters (said_of c.view.result)) = search rules in
    let room : TestCountersFit (with_test c.in-Some.counters (said_of c.view.result)) = search rules in
    rw counted (λ _. room, λ _. refl)

pub returns-clause-counter_full : goal.returns-clause-counter_full
returns-clause-counter_full c =
    let counted : test_counted c.args.stats.now c.args.test.now ≡ Some (with_test c.in-Some.counters (said_of c.view.result)) = search rules in
    let room : TestCountersFit (with_test c.in-Some.counters (said_of c.view.result)) = search rules in
    rw counted (λ same. search rules, λ full. absurd (full room))

-- they do not fit
pub returns-then-is_err-clause-counter_full : goal.returns-then-is_err-clause-counter_full
returns-then-is_err-clause-counter_full c =
    let counted : test_counted c.args.stats.now c.args.test.now ≡ Some (with_test c.in-Some.counters (said_of c.view.result)) = search rules in
    let full : TestCountersFit (with_test c.in-Some.counters (said_of c.view.result)) → ⊥ = λ fits. search rules in
    rw counted (λ _. full, λ _. refl)
