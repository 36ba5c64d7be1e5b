-- Laws of `count_of`, and of filtered lists.
use Rattle.std.proofs.Common.{◌≡◌, ℕ, ◌+◌, ◌≤◌, List, [], ◌∷◌, ◌++◌, length, Bool, true, cond, not, refl, ap, ◌∙◌, arith, rules}
use Rattle.std.specs.Prelude.{filter, Option}
use Rattle.std.specs.List.{filter_map, AllPass}
use Rattle.std.proofs.lemmas.List.{length-append}
use Rattle.std.proofs.lemmas.List.Elements.{All-cons, All-head, All-tail, filter-append, filter_agree}
use Rattle.std.proofs.lemmas.List.Filters.{length-filter_both}
use Rattle.std.proofs.lemmas.List.Sums.{count_by-le-length, length-filter, sum_by-cons}
use Rattle.run_events_stats.specs.Counters.{count_of, plus_if}

-- 1 if a rule holds, and otherwise 0
abbrev pub one : Bool → ℕ
one b = cond b 1 0

pub count_of-cons : {X : Type 0} (p : X → Bool) (x : X) (xs : List X) → count_of p (x ∷ xs) ≡ one (p x) + count_of p xs
count_of-cons p x xs = omega (arith, length-filter p (x ∷ xs), length-filter p xs, sum_by-cons (λ y. one (p y)) x xs)

pub count_of-append : {X : Type 0} (p : X → Bool) (xs ys : List X) → count_of p (xs ++ ys) ≡ count_of p xs + count_of p ys
count_of-append p xs ys = ap length (filter-append p xs ys) ∙ length-append (filter p xs) (filter p ys)

pub count_of-push : {X : Type 0} (p : X → Bool) (xs : List X) (x : X) → count_of p (xs ++ x ∷ []) ≡ plus_if (count_of p xs) (p x)
count_of-push p xs x = omega (arith, count_of-append p xs (x ∷ []), count_of-cons p x [])

pub count_of-le : {X : Type 0} (p : X → Bool) (xs : List X) → count_of p xs ≤ length xs
count_of-le p xs = omega (arith, length-filter p xs, count_by-le-length p xs)

-- if rules divide another rule among them, their counts add up to its count
pub count_of-three : {X : Type 0} (p q r whole : X → Bool) → ((x : X) → one (p x) + one (q x) + one (r x) ≡ one (whole x)) → (xs : List X)
    → count_of p xs + count_of q xs + count_of r xs ≡ count_of whole xs
count_of-three p q r whole each [] = refl
count_of-three p q r whole each (x ∷ xs) = omega
    (arith, each x, count_of-three p q r whole each xs, count_of-cons p x xs, count_of-cons q x xs, count_of-cons r x xs, count_of-cons whole x xs)

-- rules that agree count the same
pub count_of-same : {X : Type 0} (p q : X → Bool) → ((x : X) → p x ≡ q x) → (xs : List X) → count_of p xs ≡ count_of q xs
count_of-same p q same xs = ap length (filter_agree p q same xs)

-- a rule holds for an element or it does not
pub count_of-not : {X : Type 0} (p : X → Bool) (xs : List X) → count_of (λ x. not (p x)) xs + count_of p xs ≡ length xs
count_of-not p xs = omega (arith, length-filter_both p (λ x. not (p x)) (λ _. refl) xs)

-- if every element passes a rule, its count is the length of the list
pub AllPass-from_count : {X : Type 0} (p : X → Bool) (xs : List X) → count_of p xs ≡ length xs → AllPass p xs
AllPass-from_count p [] e = search rules
AllPass-from_count p (x ∷ xs) e =
    let now : p x ≡ true = grind (arith, count_of-cons p x xs, count_of-le p xs) in
    All-cons (λ y. p y ≡ true) x xs now (AllPass-from_count p xs (grind (arith, count_of-cons p x xs, now)))

pub count-from_AllPass : {X : Type 0} (p : X → Bool) (xs : List X) → AllPass p xs → count_of p xs ≡ length xs
count-from_AllPass p [] all = refl
count-from_AllPass p (x ∷ xs) all =
    let rest = count-from_AllPass p xs (All-tail (λ y. p y ≡ true) x xs all) in
    grind (arith, count_of-cons p x xs, All-head (λ y. p y ≡ true) x xs all)

-- a filtered list is no longer than the list
pub length-filter_map-le : {X Y : Type 0} (h : X → Option Y) (xs : List X) → length (filter_map h xs) ≤ length xs
length-filter_map-le h [] = omega arith
length-filter_map-le h (x ∷ xs) = grind (arith, length-filter_map-le h xs)
