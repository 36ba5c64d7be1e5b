-- Lists of errors, and empty lists.
use Rattle.std.proofs.Common.{◌≡◌, ◌↔◌, ℕ, List, [], ◌∷◌, ◌++◌, Option, Some, None, IsNone, IfSome, map, refl, sym, ap, ◌∙◌}
use Rattle.run_events_attempts.specs.ListedErrors.{ListedErrors}
use Rattle.run_events.specs.UnitErrors.{ErrorOfUnit, IsListOf, error_seen}
use Rattle.run_events.specs.declared.unit_error.errors.UnitError.{UnitError}

pub left_is_empty : {A : Type 0} (xs ys : List A) → xs ++ ys ≡ [] → xs ≡ []
left_is_empty [] ys none = refl
left_is_empty (x ∷ xs) ys none = cc

pub right_is_empty : {A : Type 0} (xs ys : List A) → xs ++ ys ≡ [] → ys ≡ []
right_is_empty [] ys none = none
right_is_empty (x ∷ xs) ys none = cc

-- a list that was made from errors has these errors; if there is a list, there is an error
pub listed : (list : Option (ListedErrors UnitError)) (said description : List ℕ) (made : List UnitError) (errors : List ErrorOfUnit)
    → (IsNone list ↔ (made ≡ [])) → IfSome list (λ l. (l.description ≡ said) × (l.items ≡ made))
    → said ≡ description → map error_seen made ≡ errors → IsListOf description errors list
listed None said description made errors none some named same = sym same ∙ ap (map error_seen) (none.0 refl)
listed (Some l) said description [] errors none some named same = let no : IsNone (Some l) = none.1 refl in absurd cc
listed (Some l) said description (e ∷ es) errors none some named same =
    (λ empty. absurd cc, some.0 ∙ named, ap (map error_seen) some.1 ∙ same)
