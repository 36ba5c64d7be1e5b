-- The highest outcome of sub-runs, one sub-run after the other.
use Rattle.std.proofs.Common.{◌≡◌, ◌≤◌, ◌⊎◌, ℕ, ◌+◌, ◌<◌, List, [], ◌∷◌, ◌++◌, length, get_or, map, max, take, Contains, refl, ap, ◌∙◌, inl, inr, arith}
use Rattle.std.proofs.lemmas.List.{map_more}
use Rattle.std.proofs.lemmas.List.Elements.{All-push, All-weaker, Contains-append_left, Contains-push}
use Rattle.run_events_stats.specs.Outcome.{IsHighest, combined, outcome_rank}
use Rattle.run_events_stats.specs.declared.outcome.RunFailureStep.TheVariants as step
use Rattle.run_events_stats.specs.declared.outcome.run_outcome.RunOutcome.{RunOutcome}
use Rattle.run_events_stats.specs.declared.outcome.run_outcome.RunOutcome.TheVariants as outcome

combined-least : (o : RunOutcome) → combined outcome.NoTestsRun o ≡ o
combined-least (outcome.Cancelled step.Test) = refl
combined-least (outcome.Failed step.Test) = refl
combined-least _ = refl

-- a single outcome is the highest
highest-one : (o : RunOutcome) → IsHighest (o ∷ []) o
highest-one o = inr (Contains-push [] o, All-push (λ other. outcome_rank other ≤ outcome_rank o) [] o (search arith) (omega arith))

-- one more outcome
highest-more : (outcomes : List RunOutcome) (o next r : RunOutcome) → r ≡ combined o next
    → outcome_rank r ≡ max (outcome_rank o) (outcome_rank next) → (r ≡ o) ⊎ (r ≡ next)
    → IsHighest outcomes o → IsHighest (outcomes ++ next ∷ []) r
highest-more outcomes o next r exact rank one (inl (none, least)) =
    let same : r ≡ next = exact ∙ ap (λ x. combined x next) least ∙ combined-least next in
    rw (none, same) (highest-one next)
highest-more outcomes o next r exact rank one (inr (among, greatest)) =
    let is_among : Contains (outcomes ++ next ∷ []) r =
    elim one [ inl same ↦ rw same (Contains-append_left outcomes (next ∷ []) o among) | inr same ↦ rw same (Contains-push outcomes next) ] in
    let Below : RunOutcome → RunOutcome → Type 0 = λ top other. outcome_rank other ≤ outcome_rank top in
    inr (is_among, All-push (Below r) outcomes next (All-weaker (Below o) (Below r) (λ _ low. omega arith) outcomes greatest) (omega arith))

-- one more sub-run, whose outcome is a function of it
pub highest-sub_run : {A : Type 0} (f : A → RunOutcome) (sub_runs : List A) (i : ℕ) (d : A) (o next r : RunOutcome) → i < length sub_runs
    → next ≡ f (get_or sub_runs i d) → r ≡ combined o next
    → outcome_rank r ≡ max (outcome_rank o) (outcome_rank next) → (r ≡ o) ⊎ (r ≡ next)
    → IsHighest (map f (take i sub_runs)) o → IsHighest (map f (take (i + 1) sub_runs)) r
highest-sub_run f sub_runs i d o next r within is_next exact rank one so_far =
    rw (map_more f sub_runs i d within, ← is_next) (highest-more (map f (take i sub_runs)) o next r exact rank one so_far)
