-- Sub-runs are equal if and only if they compare as equal.
use Rattle.std.proofs.Common.{◌≡◌, ◌<◌, ◌==◌, ◌&&◌, ℕ, Bool, true, Option, Some, None, refl, ap, ◌∙◌, subst, arith, nat_cmp}
use Rattle.std.proofs.Props.{props}
use Rattle.std.proofs.lemmas.Bool.{and_parts, eq-eqb, eqb-true}
use Rattle.std.specs.Int.NonZero.{non_zero_u32_get}
use Rattle.std.specs.Option.{option_cmp, option_eq}
use Rattle.std.specs.Ordering.{ordering_then}
use Rattle.std.specs.declared.cmp.Ordering.{Ordering}
use Rattle.std.specs.declared.cmp.Ordering.TheVariants.{Equal}
use Rattle.std.specs.declared.num.NonZeroU32.{NonZeroU32}
use Rattle.run_events_results.specs.declared.stress.StressIndex.{StressIndex}

-- numbers other than 0 are equal if their values are equal
pub same-non_zero : (a b : NonZeroU32) → non_zero_u32_get a ≡ non_zero_u32_get b → a ≡ b
same-non_zero a b e =
    let P : ℕ → Type 0 = λ v. (positive : 0 < v) → a ≡ record { value = v; ok = positive } in
    let one : IsProp (0 < a.value) = hlevel props in
    let here : P a.value = λ positive. ap (λ (p : 0 < a.value). record { value = a.value; ok = p }) (one a.ok positive) in
    subst P e here b.ok

both-equal : (o p : Ordering) → ordering_then o p ≡ Equal → (o ≡ Equal) × (p ≡ Equal)
both-equal Equal p e = (refl, e)
both-equal _ p e = cc

same-number : (m n : ℕ) → nat_cmp m n ≡ Equal → m ≡ n
same-number m n e = grind arith

equal-number : (n : ℕ) → nat_cmp n n ≡ Equal
equal-number n = grind arith

abbrev by_number : NonZeroU32 → NonZeroU32 → Ordering
by_number m n = nat_cmp (non_zero_u32_get m) (non_zero_u32_get n)

same-total : (a b : Option NonZeroU32) → option_cmp by_number a b ≡ Equal → a ≡ b
same-total None None e = refl
same-total (Some m) (Some n) e = ap Some (same-non_zero m n (same-number _ _ e))
same-total _ _ e = cc

itself-equal : (a : Option NonZeroU32) → option_cmp by_number a a ≡ Equal
itself-equal None = refl
itself-equal (Some n) = equal-number (non_zero_u32_get n)

pub same-sub_run : (a b : StressIndex) → ordering_then (nat_cmp a.current b.current) (option_cmp by_number a.total b.total) ≡ Equal → a ≡ b
same-sub_run a b e =
    let number : a.current ≡ b.current = same-number _ _ (both-equal _ _ e).0 in
    let total : a.total ≡ b.total = same-total _ _ (both-equal _ _ e).1 in
    ap (λ (n : ℕ). record { current = n; total = a.total }) number ∙ ap (λ t. record { current = b.current; total = t }) total

pub sub_run-equal : (a b : StressIndex) → a ≡ b → ordering_then (nat_cmp a.current b.current) (option_cmp by_number a.total b.total) ≡ Equal
sub_run-equal a b e = rw (e, equal-number b.current) (itself-equal b.total)

-- The same for `==`.

abbrev is_number : NonZeroU32 → NonZeroU32 → Bool
is_number m n = non_zero_u32_get m == non_zero_u32_get n

tells-total : (a b : Option NonZeroU32) → option_eq is_number a b ≡ true → a ≡ b
tells-total None None e = refl
tells-total (Some m) (Some n) e = ap Some (same-non_zero m n (eqb-true _ _ e))
tells-total _ _ e = cc

total-itself : (a : Option NonZeroU32) → option_eq is_number a a ≡ true
total-itself None = refl
total-itself (Some n) = eq-eqb (non_zero_u32_get n) _ refl

pub tells-sub_run : (a b : StressIndex) → (a.current == b.current && option_eq is_number a.total b.total) ≡ true → a ≡ b
tells-sub_run a b e =
    let number : a.current ≡ b.current = eqb-true _ _ (and_parts _ _ e).0 in
    let total : a.total ≡ b.total = tells-total _ _ (and_parts _ _ e).1 in
    ap (λ (n : ℕ). record { current = n; total = a.total }) number ∙ ap (λ t. record { current = b.current; total = t }) total

pub sub_run-itself : (a b : StressIndex) → a ≡ b → (a.current == b.current && option_eq is_number a.total b.total) ≡ true
sub_run-itself a b e = rw (e, eq-eqb b.current _ refl) (total-itself b.total)
