-- What one change does to the numbers of keys.
use Rattle.std.proofs.Common.{◌≡◌, ◌∙◌, ℕ, List, BTreeMap, true, cond, inl, inr, refl, ap, sym, arith, Global, String, Some, None, Option}
use Rattle.std.specs.BTreeMap.{get_by_text}
use Rattle.std.specs.Str.{bytes_eq}
use Rattle.std.proofs.lemmas.Bool.{cases_Bool}
use Rattle.std.proofs.lemmas.Slice.Eq.{bytes_eq-Decides}
use Rattle.test_report_run.specs.Keys.{number_at}

-- a text is its own
own-text : (name : List ℕ) → bytes_eq name name ≡ true
own-text name = grind (arith, bytes_eq-Decides name name)

-- the number of the key that is set
pub set-key : (old new : BTreeMap (String Global) ℕ) (keyless : Option ℕ) (name : List ℕ) (w : Option ℕ)
    → ((q : List ℕ) → get_by_text new q ≡ cond (bytes_eq name q) w (get_by_text old q))
    → number_at record { keys = new; keyless = keyless } (Some name) ≡ w
set-key old new keyless name w set = set name ∙ rw (own-text name) refl

-- the numbers of the other keys
pub other-keys : (old new : BTreeMap (String Global) ℕ) (keyless : Option ℕ) (name : List ℕ) (w : Option ℕ)
    → ((q : List ℕ) → get_by_text new q ≡ cond (bytes_eq name q) w (get_by_text old q))
    → (other : Option (List ℕ)) → (other ≡ Some name → ⊥)
    → number_at record { keys = new; keyless = keyless } other ≡ number_at record { keys = old; keyless = keyless } other
other-keys old new keyless name w set None apart = refl
other-keys old new keyless name w set (Some q) apart = elim (cases_Bool (bytes_eq name q)) as (λ _. get_by_text new q ≡ get_by_text old q) [
  | inl here ↦ let same : name ≡ q = grind (arith, here, bytes_eq-Decides name q) in absurd (apart (ap (λ k. Some k) (sym same)))
  | inr there ↦ set q ∙ rw there refl
]
