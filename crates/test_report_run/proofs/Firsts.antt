-- The first entry of a map that passes a test, by the least number at which an entry passes.
use Rattle.std.proofs.Common.{◌≡◌, ℕ, suc, List, [], ◌∷◌, ◌+◌, ◌<◌, ◌≤◌, ◌∙◌, inl, inr, Bool, true, false, refl, ap, sym, arith, length}
use Rattle.std.specs.BTreeMap.{is_at}
use Rattle.std.specs.List.{AllByRecursion, position_or_len, remove, slice_get}
use Rattle.std.specs.List.Sorted.{IsStrictlySortedBy}
use Rattle.std.specs.Map.{keys_of, lookup, remove_entry, set_value, values_of}
use Rattle.std.specs.Option.{option_map_or}
use Rattle.std.specs.Ordering.{nat_cmp}
use Rattle.std.specs.declared.cmp.Ordering.TheVariants.{Less}
use Rattle.std.proofs.Math.ListN.{set}
use Rattle.std.proofs.lemmas.Bool.{cases_eq, cases_Bool, false≢true}
use Rattle.std.proofs.lemmas.Bool.Decides.{nat_tests}
use Rattle.std.proofs.lemmas.Map.Keys.{sorted_head, sorted_tail}

-- the entry with this number passes
abbrev pub passes : {X : Type 0} → (X → Bool) → List (ℕ × X) → ℕ → Bool
passes p es n = option_map_or p (lookup (is_at (nat_cmp n)) es) false

-- an entry is found by its own number
is_at-same : (n k : ℕ) → n ≡ k → is_at (nat_cmp n) k ≡ true
is_at-same n k same = grind (arith, nat_tests)

is_at-apart : (n k : ℕ) → (n ≡ k → ⊥) → is_at (nat_cmp n) k ≡ false
is_at-apart n k apart = grind (arith, nat_tests)

lt_from_Less : (n k : ℕ) → nat_cmp n k ≡ Less → n < k
lt_from_Less n k less = grind (arith, nat_tests)

passes-here : {X : Type 0} (p : X → Bool) (e : ℕ × X) (es : List (ℕ × X)) (n : ℕ) → n ≡ e.0 → passes p (e ∷ es) n ≡ p e.1
passes-here p e es n same = rw (is_at-same n e.0 same) refl

passes-later : {X : Type 0} (p : X → Bool) (e : ℕ × X) (es : List (ℕ × X)) (n : ℕ) → (n ≡ e.0 → ⊥) → passes p (e ∷ es) n ≡ passes p es n
passes-later p e es n apart = rw (is_at-apart n e.0 apart) refl

-- a number that passes is above what all numbers are above
above : {X : Type 0} (p : X → Bool) (k : ℕ) (es : List (ℕ × X)) (n : ℕ) → AllByRecursion (λ y. nat_cmp k y ≡ Less) (keys_of es) → passes p es n ≡ true → k < n
above p k [] n all is = absurd (false≢true is)
above p k (e ∷ es) n all is = elim (cases_eq n e.0) as (λ _. k < n) [
  | inl same ↦ rw same (lt_from_Less k e.0 all.0)
  | inr apart ↦ above p k es n all.1 (sym (passes-later p e es n apart) ∙ is)
]

-- the place of the first entry that passes, what is left without it, what it is, and what another one in its place gives
abbrev pub IsFirst : {X : Type 0} → (X → Bool) → List (ℕ × X) → ℕ → Type 0
IsFirst {X} p es n = (position_or_len p (values_of es) < length (values_of es))
    × (values_of (remove_entry (is_at (nat_cmp n)) es) ≡ remove (values_of es) (position_or_len p (values_of es)))
    × (lookup (is_at (nat_cmp n)) es ≡ slice_get (values_of es) (position_or_len p (values_of es)))
    × ((x : X) → values_of (set_value (is_at (nat_cmp n)) es x) ≡ set (values_of es) (position_or_len p (values_of es)) x)

first-here : {X : Type 0} (p : X → Bool) (e : ℕ × X) (es : List (ℕ × X)) (n : ℕ) → n ≡ e.0 → p e.1 ≡ true → IsFirst p (e ∷ es) n
first-here p e es n same here = rw (here, is_at-same n e.0 same) (omega arith, refl, refl, λ x. refl)

first-later : {X : Type 0} (p : X → Bool) (e : ℕ × X) (es : List (ℕ × X)) (n : ℕ) → (n ≡ e.0 → ⊥) → p e.1 ≡ false → IsFirst p es n → IsFirst p (e ∷ es) n
first-later p e es n apart here first =
    let place = position_or_len p (values_of es) in
    let next : 1 + place ≡ suc place = omega arith in
    rw (here, is_at-apart n e.0 apart, next) (omega (arith, first.0), ap (λ vs. e.1 ∷ vs) first.1, first.2, λ x. ap (λ vs. e.1 ∷ vs) (first.3 x))

pub first_place : {X : Type 0} (p : X → Bool) (es : List (ℕ × X)) (n : ℕ) → IsStrictlySortedBy nat_cmp (keys_of es) → passes p es n ≡ true
    → ((k : ℕ) → passes p es k ≡ true → n ≤ k) → IsFirst p es n
first_place p [] n sorted is least = absurd (false≢true is)
first_place p (e ∷ es) n sorted is least = elim (cases_eq n e.0) as (λ _. IsFirst p (e ∷ es) n) [
  | inl same ↦ first-here p e es n same (sym (passes-here p e es n same) ∙ is)
  | inr apart ↦
      let later = sym (passes-later p e es n apart) ∙ is in
      let over = above p e.0 es n (sorted_head nat_cmp e.0 (keys_of es) sorted) later in
      elim (cases_Bool (p e.1)) as (λ _. IsFirst p (e ∷ es) n) [
        | inl here ↦ let under = least e.0 (passes-here p e es e.0 refl ∙ here) in absurd (omega arith)
        | inr here ↦ first-later p e es n apart here (first_place p es n (sorted_tail nat_cmp e.0 (keys_of es) sorted) later
            (λ k passed. let beyond = above p e.0 es k (sorted_head nat_cmp e.0 (keys_of es) sorted) passed in
            least k (passes-later p e es k (λ (same : k ≡ e.0). omega arith) ∙ passed)))
      ]
]

-- no entry passes where no number does
pub none_passes : {X : Type 0} (p : X → Bool) (es : List (ℕ × X)) → IsStrictlySortedBy nat_cmp (keys_of es) → ((k : ℕ) → passes p es k ≡ false)
    → position_or_len p (values_of es) ≡ length (values_of es)
none_passes p [] sorted none = refl
none_passes p (e ∷ es) sorted none =
    let place = position_or_len p (values_of es) in
    let next : 1 + place ≡ suc place = omega arith in
    rw (sym (passes-here p e es e.0 refl) ∙ none e.0, next) (
    ap suc (none_passes p es (sorted_tail nat_cmp e.0 (keys_of es) sorted)
    (λ k. elim (cases_Bool (passes p es k)) as (λ _. passes p es k ≡ false) [
      | inl passed ↦ let beyond = above p e.0 es k (sorted_head nat_cmp e.0 (keys_of es) sorted) passed in
          sym (passes-later p e es k (λ (same : k ≡ e.0). omega arith)) ∙ none k
      | inr failed ↦ failed
    ])))
