-- Sums over lists.
use Rattle.std.proofs.Common.{◌≡◌, ℕ, List, [], ◌∷◌, ◌+◌, ◌≤◌, Bool, true, false, cond, refl, arith, length, map}
use Rattle.std.specs.List.{sum_by}
use Rattle.std.specs.Prelude.{if◌then◌else◌}
use Rattle.std.proofs.lemmas.List.Sums.{sum_by-cons}
use Rattle.std.proofs.lemmas.List.Folds.{fold-map}

-- a sum over a map
pub sum-map : {X Y : Type 0} (w : Y → ℕ) (f : X → Y) (xs : List X) → sum_by w (map f xs) ≡ sum_by (λ x. w (f x)) xs
sum-map w f xs = fold-map (λ a y. a + w y) f 0 xs

-- sums of equal terms
pub sum-same : {X : Type 0} (w v : X → ℕ) → ((x : X) → w x ≡ v x) → (xs : List X) → sum_by w xs ≡ sum_by v xs
sum-same w v h [] = refl
sum-same w v h (x ∷ xs) = omega (arith, sum_by-cons w x xs, sum_by-cons v x xs, h x, sum-same w v h xs)

pub sum-none : {X : Type 0} (w : X → ℕ) → ((x : X) → w x ≡ 0) → (xs : List X) → sum_by w xs ≡ 0
sum-none w h [] = refl
sum-none w h (x ∷ xs) = omega (arith, sum_by-cons w x xs, h x, sum-none w h xs)

pub sum-ones : {X : Type 0} (w : X → ℕ) → ((x : X) → w x ≡ 1) → (xs : List X) → sum_by w xs ≡ length xs
sum-ones w h [] = refl
sum-ones w h (x ∷ xs) = omega (arith, sum_by-cons w x xs, h x, sum-ones w h xs)

pub sum-all : {X : Type 0} (w : X → ℕ) (one : Bool) → ((x : X) → w x ≡ cond one 1 0) → (xs : List X) → sum_by w xs ≡ cond one (length xs) 0
sum-all w true h xs = sum-ones w h xs
sum-all w false h xs = sum-none w h xs

-- one note, or none
pub sum-if-none : {X : Type 0} (w : X → ℕ) (b : Bool) (x : X) → w x ≡ 0 → sum_by w (if b then x ∷ [] else []) ≡ 0
sum-if-none w true x h = omega (arith, sum_by-cons w x [], h)
sum-if-none w false x h = refl

-- a sum of sums
pub sum-both : {X : Type 0} (w a b : X → ℕ) → ((x : X) → w x ≡ a x + b x) → (xs : List X) → sum_by w xs ≡ sum_by a xs + sum_by b xs
sum-both w a b h [] = refl
sum-both w a b h (x ∷ xs) = omega (arith, sum_by-cons w x xs, sum_by-cons a x xs, sum_by-cons b x xs, h x, sum-both w a b h xs)

-- a test counts for at most one
pub one-most : (b : Bool) → cond b 1 0 ≤ 1
one-most b = grind arith
