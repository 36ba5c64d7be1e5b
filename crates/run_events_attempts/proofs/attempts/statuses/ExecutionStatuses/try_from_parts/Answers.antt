use Rattle.std.proofs.Common.{◌≡◌, ◌==◌, ℕ, true, false, List, [], ◌∷◌, length, refl, ap, sym, ◌∙◌, arith, eq-eqb}
use Rattle.std.proofs.lemmas.Bool.{eqb-true, false≢true}
use Rattle.run_events_attempts.proofs.attempts.statuses.ExecutionStatuses.try_from_parts.Goals as goal

-- a list of this length is empty if and only if the length is 0
none : {X : Type 0} (xs : List X) (n : ℕ) → n ≡ length xs → (n == 0) ≡ true → xs ≡ []
none [] n size zero = refl
none (x ∷ xs) n size zero = absurd (omega (arith, eqb-true n 0 zero))

some : {X : Type 0} (xs : List X) (n : ℕ) → n ≡ length xs → (n == 0) ≡ false → xs ≡ [] → false ≡ true
some xs n size positive empty = sym positive ∙ eq-eqb n 0 (size ∙ ap length empty)

pub destroy_empty-requires : goal.destroy_empty-requires
destroy_empty-requires g c = eqb-true _ _ (sym c.is_empty.ensures ∙ c.if-is_empty.true)

pub returns-then-is_empty-clause-empty : goal.returns-then-is_empty-clause-empty
returns-then-is_empty-clause-empty g c =
    (λ error. none c.args.statuses.items _ c.args.statuses.ok.0 (sym c.is_empty.ensures ∙ c.if-is_empty.true), λ empty. refl)

pub returns-clause-empty : goal.returns-clause-empty
returns-clause-empty g c =
    (λ error. absurd (false≢true error), some c.args.statuses.items _ c.args.statuses.ok.0 (sym c.is_empty.ensures ∙ c.if-is_empty.false))

pub returns-clause-attempts : goal.returns-clause-attempts
returns-clause-attempts g c = c.new.ensures.attempts

pub returns-clause-flaky_result : goal.returns-clause-flaky_result
returns-clause-flaky_result g c = c.new.ensures.flaky_result
