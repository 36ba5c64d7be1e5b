use Rattle.std.proofs.Common.{◌≡◌, ◌<◌, length, refl, ap, sym, ◌∙◌, arith}
use Rattle.std.proofs.lemmas.Bool.Decides.{nat_tests}
use Rattle.std.proofs.lemmas.List.{length-take, length-take-le}
use Rattle.run_events_results.specs.Results.{succeeds}
use Rattle.run_events_attempts.proofs.LastAttempt.{first-rest, last-at, only-one, same-ends, prior-last}
use Rattle.run_events_attempts.proofs.attempts.description.ExecutionDescription.of_attempts.Goals as goal

pub slice_bounds-prior_statuses-length : goal.slice_bounds-prior_statuses-length
slice_bounds-prior_statuses-length g c = sym (length-take-le _ c.args.statuses.now (omega arith))

pub returns-in-len1 : goal.returns-in-len1
returns-in-len1 g c =
    (only-one c.args.statuses.now c.single_status-item.result (omega arith) c.single_status-item.is, sym c.is_success.ensures ∙ c.if-is_success.true)

pub returns-in-len1-up : goal.returns-in-len1-up
returns-in-len1-up g c =
    let all = c.args.statuses.now in
    let several : 1 < length all = grind (arith, nat_tests, same-ends) in (
      prior-last all c.last_status-item.result c.requires c.last_status-item.is,
      simp length-take (omega arith),
      sym c.is_success-2.ensures ∙ c.if-is_success-2.true,
      refl,
    )

pub returns-in-len1-up-2 : goal.returns-in-len1-up-2
returns-in-len1-up-2 g c =
    let all = c.args.statuses.now in
    let last = last-at all c.index-statuses-statuses.result c.requires c.index-statuses-statuses.is in
    let same : c.last_status-item.result ≡ c.index-statuses-statuses.result = cc
    (last-at all c.last_status-item.result c.requires c.last_status-item.is, last) in (
      first-rest all c.first_status-item.result c.requires c.first_status-item.is,
      last,
      ap (λ s. succeeds s.result) (sym same) ∙ sym c.if-is_success-2.ensures,
    )
