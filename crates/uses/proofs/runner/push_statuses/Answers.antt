use Rattle.std.proofs.Common.{◌≡◌, ◌+◌, ◌<◌, ◌^◌, arith, length, rules, subst, sym, take}
use Rattle.std.proofs.lemmas.List.{length-take-le, take_all, take_more}
use Rattle.uses.specs.Runner.{HasStatuses, numbered_of}
use Rattle.uses.proofs.RunnerLemmas.{no_statuses, number_after, statuses_more}
use Rattle.uses.proofs.runner.push_statuses.Goals as goal

pub loop-attempt-init : goal.loop-attempt-init
loop-attempt-init c = record { so_far = no_statuses _ _ c.requires; next = search rules }

pub loop-attempt-preserved : goal.loop-attempt-preserved
loop-attempt-preserved c =
    let attempts = c.args.attempts.now in
    let i = c.loop-attempt.attempt-index in
    let within = c.loop-attempt-test.true in
    record {
      so_far =
          subst (λ seen. HasStatuses seen c.args.total_attempts c.push_status.new.statuses.items) (sym (take_more attempts i _ within))
          (statuses_more (take i attempts) c.args.total_attempts i (length-take-le i attempts (omega arith)) c.loop-attempt.invariant.so_far
          c.in_ok-push_status.ensures c.loop-attempt.invariant.next);
      next = λ few. number_after _ _ _ i few (c.loop-attempt.invariant.next (omega (arith, few))) c.saturating_add.ensures;
    }

pub returns : goal.returns
returns c =
    let attempts = c.args.attempts.now in
    let all : c.loop-attempt.attempt-index ≡ length attempts = omega (arith, c.loop-attempt-test.false, c.loop-attempt.auto.attempt-index-end) in
    record {
      statuses =
          subst (λ seen. HasStatuses seen c.args.total_attempts c.loop-attempt.statuses.items)
          (take_all c.loop-attempt.attempt-index attempts c.loop-attempt-test.false) c.loop-attempt.invariant.so_far;
      next =
          subst (λ n. n + 1 < 2 ^ 32 → c.loop-attempt.retry_data ≡ numbered_of c.args.total_attempts (n + 1)) all c.loop-attempt.invariant.next;
    }
