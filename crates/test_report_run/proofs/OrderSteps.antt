-- What one change does to the numbers of running tests.
use Rattle.std.proofs.Common.{◌≡◌, ◌∙◌, ℕ, List, [], ◌∷◌, ◌++◌, ◌+◌, ◌<◌, ◌≤◌, inl, inr, Bool, true, false, not, cond, ◌&&◌, ◌||◌, ◌==◌, refl, ap, sym, arith, length, Some, None, Option, unwrap_or}
use Rattle.std.specs.BTreeMap.{insert_entry, is_at}
use Rattle.std.specs.BTreeSet.{BTreeSet, contains}
use Rattle.std.specs.List.{list_any}
use Rattle.std.specs.Map.{lookup, values_of}
use Rattle.std.specs.Option.{IsSome, option_eq, option_map_or}
use Rattle.std.specs.Ordering.{is_gt, nat_cmp}
use Rattle.std.specs.Str.{bytes_eq}
use Rattle.std.specs.declared.cmp.Ordering.TheVariants.{Greater}
use Rattle.std.proofs.lemmas.Bool.{cases_Bool, cases_eq}
use Rattle.std.proofs.lemmas.Bool.Decides.{nat_tests}
use Rattle.std.proofs.lemmas.Slice.Eq.{bytes_eq-Decides}
use Rattle.test_report_run.specs.Orders.{suite_order_cmp}
use Rattle.test_report_run.specs.Running.{running_test_view, running_view}
use Rattle.test_report_run.specs.declared.running.RunningTest.{RunningTest}

-- a number compares as equal to itself alone
pub same_number : (m n : ℕ) → is_at (nat_cmp m) n ≡ (m == n)
same_number m n = grind (arith, nat_tests)

pub same_place : (s t : Option ℕ) (m n : ℕ) → is_at (suite_order_cmp (s, m)) (t, n) ≡ (option_eq (λ a b. a == b) s t && m == n)
same_place None None m n = same_number m n
same_place None (Some b) m n = refl
same_place (Some a) None m n = refl
same_place (Some a) (Some b) m n = grind (arith, nat_tests)

cond-or : (b had : Bool) → cond b true had ≡ (had || b)
cond-or true true = refl
cond-or true false = refl
cond-or false true = refl
cond-or false false = refl

cond-and : (b had : Bool) → cond b false had ≡ (had && not b)
cond-and true true = refl
cond-and true false = refl
cond-and false true = refl
cond-and false false = refl

or-false : (b : Bool) → b ≡ (b || false)
or-false true = refl
or-false false = refl

and-true : (b : Bool) → b ≡ (b && not false)
and-true true = refl
and-true false = refl

-- a set with one more number
set_with : (had : Option (BTreeSet ℕ)) (empty after : BTreeSet ℕ) (order n : ℕ) → empty.keys ≡ []
    → contains nat_cmp after n ≡ cond (is_at (nat_cmp order) n) true (contains nat_cmp (unwrap_or had empty) n)
    → contains nat_cmp after n ≡ (option_map_or (λ orders. contains nat_cmp orders n) had false || order == n)
set_with None empty after order n none is =
    is ∙ ap (λ keys. cond (is_at (nat_cmp order) n) true (list_any (is_at (nat_cmp n)) keys)) none
    ∙ cond-or (is_at (nat_cmp order) n) false ∙ ap (λ b. false || b) (same_number order n)
set_with (Some set) empty after order n none is =
    is ∙ cond-or (is_at (nat_cmp order) n) (contains nat_cmp set n) ∙ ap (λ b. contains nat_cmp set n || b) (same_number order n)

-- a map with one more number at a name
pub map_with : (had before now : Option (BTreeSet ℕ)) (name q : List ℕ) (empty after : BTreeSet ℕ) (order n : ℕ)
    → now ≡ cond (bytes_eq name q) (Some after) before → (name ≡ q → had ≡ before) → empty.keys ≡ []
    → contains nat_cmp after n ≡ cond (is_at (nat_cmp order) n) true (contains nat_cmp (unwrap_or had empty) n)
    → option_map_or (λ orders. contains nat_cmp orders n) now false
    ≡ (option_map_or (λ orders. contains nat_cmp orders n) before false || (bytes_eq name q && order == n))
map_with had before now name q empty after order n is same none changed = elim (cases_Bool (bytes_eq name q))
    as (λ _. option_map_or (λ orders. contains nat_cmp orders n) now false
    ≡ (option_map_or (λ orders. contains nat_cmp orders n) before false || (bytes_eq name q && order == n))) [
      | inl here ↦ let names : name ≡ q = grind (arith, bytes_eq-Decides name q) in
          rw (is, here, ← same names) (set_with had empty after order n none changed)
      | inr other ↦ rw (is, other) (or-false (option_map_or (λ orders. contains nat_cmp orders n) before false))
    ]

-- a map with one number less at a name
pub map_without : (before now : Option (BTreeSet ℕ)) (name q : List ℕ) (had after : BTreeSet ℕ) (order n : ℕ) (left : Option (BTreeSet ℕ))
    → now ≡ cond (bytes_eq name q) left before → (name ≡ q → before ≡ Some had)
    → contains nat_cmp after n ≡ cond (is_at (nat_cmp order) n) false (contains nat_cmp had n)
    → option_map_or (λ orders. contains nat_cmp orders n) left false ≡ contains nat_cmp after n
    → option_map_or (λ orders. contains nat_cmp orders n) now false
    ≡ (option_map_or (λ orders. contains nat_cmp orders n) before false && not (bytes_eq name q && order == n))
map_without before now name q had after order n left is same changed kept = elim (cases_Bool (bytes_eq name q))
    as (λ _. option_map_or (λ orders. contains nat_cmp orders n) now false
    ≡ (option_map_or (λ orders. contains nat_cmp orders n) before false && not (bytes_eq name q && order == n))) [
      | inl here ↦ let names : name ≡ q = grind (arith, bytes_eq-Decides name q) in
          rw (is, here, same names) (kept ∙ changed ∙ cond-and (is_at (nat_cmp order) n) (contains nat_cmp had n)
          ∙ ap (λ b. contains nat_cmp had n && not b) (same_number order n))
      | inr other ↦ rw (is, other) (and-true (option_map_or (λ orders. contains nat_cmp orders n) before false))
    ]

-- an index without the number of a test that is removed
without-true : (f : Bool) → (f && not (f && true)) ≡ false
without-true true = refl
without-true false = refl

without-false : (f h : Bool) → (h && not (f && false)) ≡ h
without-false true true = refl
without-false true false = refl
without-false false true = refl
without-false false false = refl

pub index_without : (f : RunningTest → Bool) (before now : Option RunningTest) (test : RunningTest) (order n : ℕ) (had has : Bool)
    → now ≡ cond (is_at (nat_cmp order) n) None before → (order ≡ n → before ≡ Some test) → has ≡ (had && not (f test && order == n))
    → had ≡ option_map_or f before false → has ≡ option_map_or f now false
index_without f before now test order n had has is here changed index = elim (cases_eq order n) as (λ _. has ≡ option_map_or f now false) [
  | inl same ↦
      let t : (order == n) ≡ true = grind (arith, nat_tests) in
      changed ∙ rw (is, same_number order n, t, index, here same) (without-true (f test))
  | inr apart ↦
      let t : (order == n) ≡ false = grind (arith, nat_tests) in
      changed ∙ rw (is, same_number order n, t) (without-false (f test) had ∙ index)
]

pub place_without : (s t : Option ℕ) (order n : ℕ) (had has : Bool) → has ≡ cond (is_at (suite_order_cmp (s, order)) (t, n)) false had
    → has ≡ (had && not (option_eq (λ a b. a == b) s t && order == n))
place_without s t order n had has is =
    is ∙ cond-and (is_at (suite_order_cmp (s, order)) (t, n)) had ∙ ap (λ b. had && not b) (same_place s t order n)

-- an index with the number of a test that starts
with-true : (f : Bool) → (false || (f && true)) ≡ f
with-true true = refl
with-true false = refl

with-false : (f h : Bool) → (h || (f && false)) ≡ h
with-false true true = refl
with-false true false = refl
with-false false true = refl
with-false false false = refl

pub index_with : (f : RunningTest → Bool) (before now : Option RunningTest) (test : RunningTest) (order n : ℕ) (had has : Bool)
    → now ≡ cond (is_at (nat_cmp order) n) (Some test) before → (order ≡ n → before ≡ None) → has ≡ (had || (f test && order == n))
    → had ≡ option_map_or f before false → has ≡ option_map_or f now false
index_with f before now test order n had has is here changed index = elim (cases_eq order n) as (λ _. has ≡ option_map_or f now false) [
  | inl same ↦
      let t : (order == n) ≡ true = grind (arith, nat_tests) in
      changed ∙ rw (is, same_number order n, t, index, here same) (with-true (f test))
  | inr apart ↦
      let t : (order == n) ≡ false = grind (arith, nat_tests) in
      changed ∙ rw (is, same_number order n, t) (with-false (f test) had ∙ index)
]

pub place_with : (s t : Option ℕ) (order n : ℕ) (had has : Bool) → has ≡ cond (is_at (suite_order_cmp (s, order)) (t, n)) true had
    → has ≡ (had || (option_eq (λ a b. a == b) s t && order == n))
place_with s t order n had has is =
    is ∙ cond-or (is_at (suite_order_cmp (s, order)) (t, n)) had ∙ ap (λ b. had || b) (same_place s t order n)

-- a number above all others comes last
is_greater : (k n : ℕ) → n < k → nat_cmp k n ≡ Greater
is_greater k n above = grind (arith, nat_tests)

found-head : {X : Type 0} (e : ℕ × X) (es : List (ℕ × X)) → IsSome (lookup (is_at (nat_cmp e.0)) (e ∷ es))
found-head e es = rw (same_number e.0 e.0) (grind (arith, nat_tests))

found-tail : {X : Type 0} (e : ℕ × X) (es : List (ℕ × X)) (n : ℕ) → IsSome (lookup (is_at (nat_cmp n)) es) → IsSome (lookup (is_at (nat_cmp n)) (e ∷ es))
found-tail e es n found = elim (cases_Bool (is_at (nat_cmp n) e.0)) as (λ _. IsSome (lookup (is_at (nat_cmp n)) (e ∷ es))) [
  | inl here ↦ grind (arith, here)
  | inr later ↦ rw later found
]

pub insert_last : {X : Type 0} (es : List (ℕ × X)) (k : ℕ) (x : X) → ((n : ℕ) → IsSome (lookup (is_at (nat_cmp n)) es) → n < k)
    → insert_entry nat_cmp es k x ≡ es ++ (k, x) ∷ []
insert_last [] k x above = refl
insert_last (e ∷ es) k x above =
    rw (is_greater k e.0 (above e.0 (found-head e es)))
    (ap (λ rest. e ∷ rest) (insert_last es k x (λ n found. above n (found-tail e es n found))))

pub view_last : (es : List (ℕ × RunningTest)) (k : ℕ) (test : RunningTest)
    → running_view (values_of (es ++ (k, test) ∷ [])) ≡ running_view (values_of es) ++ running_test_view test ∷ []
view_last [] k test = refl
view_last (e ∷ es) k test = ap (λ rest. running_test_view e.1 ∷ rest) (view_last es k test)

-- the tests that are left started before, too
pub still_below : {X : Type 0} (before now : Option X) (b : Bool) (P : Type 0) → now ≡ cond b None before → (IsSome before → P) → IsSome now → P
still_below before now true P is below found = absurd (grind (arith, is, found))
still_below before now false P is below found = below (rw (sym is) found)

-- the tests with one more started before, too
pub now_below : {X : Type 0} (before now : Option X) (x : X) (order n : ℕ) → now ≡ cond (is_at (nat_cmp order) n) (Some x) before
    → (IsSome before → n < order) → IsSome now → n < order + 1
now_below before now x order n is below found = elim (cases_eq order n) as (λ _. n < order + 1) [
  | inl same ↦ omega (arith, same)
  | inr apart ↦
      let t : (order == n) ≡ false = grind (arith, nat_tests) in
      let kept : now ≡ before = is ∙ rw (same_number order n, t) refl in
      let under = below (rw (sym kept) found) in omega (arith, under)
]

-- no test has the next number
pub none_at : {X : Type 0} (found : Option X) (order n : ℕ) → (IsSome found → n < order) → order ≡ n → found ≡ None
none_at None order n below same = refl
none_at (Some x) order n below same = let under = below refl in absurd (omega (arith, under, same))

-- places of one suite are in the order of their numbers
pub place_le : (s : Option ℕ) (m n : ℕ) → m ≤ n → is_gt (suite_order_cmp (s, m) (s, n)) ≡ false
place_le None m n below = grind (arith, nat_tests)
place_le (Some a) m n below = grind (arith, nat_tests)

le_place : (s : Option ℕ) (m n : ℕ) → is_gt (suite_order_cmp (s, m) (s, n)) ≡ false → m ≤ n
le_place None m n below = grind (arith, nat_tests)
le_place (Some a) m n below = grind (arith, nat_tests)

-- a place at most as high as one of its suite has at most its number
pub place_at_most : (t s : Option ℕ) (m n : ℕ) → option_eq (λ a b. a == b) t s ≡ true → is_gt (suite_order_cmp (t, m) (s, n)) ≡ false → m ≤ n
place_at_most None None m n same below = le_place None m n below
place_at_most None (Some b) m n same below = absurd (grind (arith, same))
place_at_most (Some a) None m n same below = absurd (grind (arith, same))
place_at_most (Some a) (Some b) m n same below = grind (arith, nat_tests)

-- a place between places of one suite is of this suite
pub place_between : (s t : Option ℕ) (k m n : ℕ) → is_gt (suite_order_cmp (s, k) (t, m)) ≡ false → is_gt (suite_order_cmp (t, m) (s, n)) ≡ false
    → option_eq (λ a b. a == b) t s ≡ true
place_between None None k m n from to = refl
place_between None (Some b) k m n from to = grind (arith, nat_tests)
place_between (Some a) None k m n from to = grind (arith, nat_tests)
place_between (Some a) (Some b) k m n from to = grind (arith, nat_tests)

-- a list without elements
pub length_zero : {X : Type 0} (xs : List X) → length xs ≡ 0 → xs ≡ []
length_zero [] is = refl
length_zero (x ∷ xs) is = absurd (omega (arith, is))

-- a test that changes keeps its place in an index
pub index_kept : (f : RunningTest → Bool) (before now : Option RunningTest) (test after : RunningTest) (order n : ℕ)
    → now ≡ cond (is_at (nat_cmp order) n) (Some after) before → (order ≡ n → before ≡ Some test) → f after ≡ f test
    → option_map_or f before false ≡ option_map_or f now false
index_kept f before now test after order n is here kept = elim (cases_eq order n) as (λ _. option_map_or f before false ≡ option_map_or f now false) [
  | inl same ↦
      let t : (order == n) ≡ true = grind (arith, nat_tests) in
      rw (is, same_number order n, t, here same) (sym kept)
  | inr apart ↦
      let t : (order == n) ≡ false = grind (arith, nat_tests) in
      rw (is, same_number order n, t) refl
]

-- the tests started before if one of them changes, too
pub some_kept : {X : Type 0} (before now : Option X) (test after : X) (order n : ℕ) → now ≡ cond (is_at (nat_cmp order) n) (Some after) before
    → (order ≡ n → before ≡ Some test) → IsSome now → IsSome before
some_kept before now test after order n is here found = elim (cases_eq order n) as (λ _. IsSome before) [
  | inl same ↦ rw (here same) refl
  | inr apart ↦
      let t : (order == n) ≡ false = grind (arith, nat_tests) in
      let kept : now ≡ before = is ∙ rw (same_number order n, t) refl in
      rw (sym kept) found
]
