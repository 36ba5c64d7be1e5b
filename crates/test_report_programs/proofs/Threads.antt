-- The names of threads in a set, and in a line.
use Rattle.std.proofs.Common.{◌≡◌, ◌∙◌, ◌++◌, [], ◌∷◌, ◌<◌, Bool, Global, List, None, Some, String, ap, arith, cond, length, map, nat_eq, nat_lt, refl, string_bytes, sym, true, ℕ}
use Rattle.std.specs.BTreeSet.{insert_key}
use Rattle.std.specs.Cmp.Lexicographic.{slice_cmp}
use Rattle.std.specs.List.{after_first, before_first, fold, position_or_len, starts_with}
use Rattle.std.specs.Ordering.{match_ordering, nat_cmp}
use Rattle.std.specs.Prelude.{◌==◌}
use Rattle.std.specs.declared.cmp.Ordering.{Ordering}
use Rattle.std.specs.declared.cmp.Ordering.TheVariants.{Equal, Greater, Less}
use Rattle.std.proofs.lemmas.Bool.Decides.{nat_tests}
use Rattle.test_report_programs.specs.Names.{quoted, without_number}

-- what a case of an order gives is mapped
map-ordering : {A B : Type 0} (f : A → B) (o : Ordering) (less equal greater : List A)
    → map f (match_ordering o less equal greater) ≡ match_ordering o (map f less) (map f equal) (map f greater)
map-ordering f Less less equal greater = refl
map-ordering f Equal less equal greater = refl
map-ordering f Greater less equal greater = refl

-- a name is inserted among the texts as among the keys
pub insert-text : (keys : List (String Global)) (k : String Global)
    → map string_bytes (insert_key (λ a b. slice_cmp nat_cmp (string_bytes a) (string_bytes b)) keys k)
    ≡ insert_key (slice_cmp nat_cmp) (map string_bytes keys) (string_bytes k)
insert-text [] k = refl
insert-text (x ∷ keys) k =
    let o = slice_cmp nat_cmp (string_bytes k) (string_bytes x) in
    map-ordering string_bytes o (k ∷ x ∷ keys) (x ∷ keys) (x ∷ insert_key (λ a b. slice_cmp nat_cmp (string_bytes a) (string_bytes b)) keys k)
    ∙ ap (λ (rest : List (List ℕ)). match_ordering o (map string_bytes (k ∷ x ∷ keys)) (map string_bytes (x ∷ keys)) (string_bytes x ∷ rest))
    (insert-text keys k)

-- the text before the first quote, if there is one
pub quoted-as : (words text name after : List ℕ) (b : Bool) → position_or_len (λ c. c == 39) text < length text
    → name ≡ before_first (λ c. c == 39) text → after ≡ after_first (λ c. c == 39) text → b ≡ starts_with nat_eq (without_number after) words
    → cond b (Some name) None ≡ quoted words text
quoted-as words text name after b within is rest follows =
    let found : nat_lt (position_or_len (λ c. c == 39) text) (length text) ≡ true = grind (arith, nat_tests, within) in
    ap (λ x. cond x (Some name) None) follows
    ∙ ap (λ (t : List ℕ). cond (starts_with nat_eq (without_number t) words) (Some name) None) rest
    ∙ ap (λ (n : List ℕ). cond (starts_with nat_eq (without_number (after_first (λ c. c == 39) text)) words) (Some n) None) is
    ∙ sym (ap (λ (x : Bool). cond x (cond (starts_with nat_eq (without_number (after_first (λ c. c == 39) text)) words)
    (Some (before_first (λ c. c == 39) text)) None) None) found)

-- one more line
pub fold-more : {A B C : Type 0} (f : C → B → C) (start : C) (g : A → B) (xs : List A) (x : A)
    → fold f start (map g (xs ++ x ∷ [])) ≡ f (fold f start (map g xs)) (g x)
fold-more f start g [] x = refl
fold-more f start g (y ∷ xs) x = fold-more f (f start (g y)) g xs x
