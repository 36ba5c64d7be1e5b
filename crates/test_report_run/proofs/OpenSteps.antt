-- What one change does to the numbers and the keys of open suites.
use Rattle.std.proofs.Common.{◌≡◌, ◌∙◌, ℕ, zero, suc, List, [], ◌∷◌, ◌++◌, ◌+◌, ◌<◌, ◌≤◌, ◌==◌, inl, inr, Bool, true, false, cond, nat_lt, map, refl, ap, sym, arith, length, get_or, Some, None, Option, Box, Global, Result, Ok, Err}
use Rattle.std.specs.Box.{with_value}
use Rattle.std.specs.List.{position, position_or_len, remove}
use Rattle.std.specs.Option.{is_none, option_map_or}
use Rattle.std.specs.List.Sorted.{IsBinarySearchResult}
use Rattle.std.specs.Ordering.{nat_cmp}
use Rattle.std.specs.Result.{result_ok}
use Rattle.std.specs.Str.{bytes_eq}
use Rattle.std.proofs.Math.ListN.{set}
use Rattle.std.proofs.lemmas.Bool.{cases_Bool, cases_eq, cases_lt, false≢true, lt-ltb, le-ltb}
use Rattle.std.proofs.lemmas.Bool.Decides.{nat_tests}
use Rattle.std.proofs.lemmas.List.{get_or-map, get_or_append_left, get_or_push, length-append, length-map, map-append}
use Rattle.std.proofs.lemmas.List.Edits.{get_or-remove_above, get_or-remove_below, length-remove}
use Rattle.std.proofs.lemmas.List.Sorted.{searched}
use Rattle.std.proofs.lemmas.Option.{none-some, same_Some}
use Rattle.std.proofs.lemmas.Slice.Eq.{bytes_eq-Decides}
use Rattle.test_report_run_notes.proofs.Places.{position-map}
use Rattle.test_report_run_notes.specs.Note.{text_view}
use Rattle.test_report_run.specs.Keys.{keys_in, number_at, numbers_in}
use Rattle.test_report_run.specs.OpenSuites.{states_in, suites_of}
use Rattle.test_report_run.specs.Running.{is_same}
use Rattle.test_report_run.specs.Suite.{SuiteState, has_key, outside_start, state_of}
use Rattle.test_report_run.specs.declared.open_suites.OpenSuites.{OpenSuites}
use Rattle.test_report_run.specs.declared.suite.Suite.{Suite}

-- the numbers rise
abbrev pub Rises : List ℕ → Type 0
Rises ns = (i j : ℕ) → i < j → j < length ns → get_or ns i 0 < get_or ns j 0

-- no number is above the bound
abbrev pub IsUpTo : ℕ → List ℕ → Type 0
IsUpTo bound ns = (i : ℕ) → i < length ns → get_or ns i 0 ≤ bound

-- the index has the number of each key
abbrev pub IsKeyed : (Option (List ℕ) → Option ℕ) → List (Option (List ℕ)) → List ℕ → Type 0
IsKeyed index ks ns = (i : ℕ) → i < length ns → index (get_or ks i None) ≡ Some (get_or ns i 0)

-- equal numbers have one place
pub one-place : (ns : List ℕ) (i j : ℕ) → Rises ns → i < length ns → j < length ns → get_or ns i 0 ≡ get_or ns j 0 → i ≡ j
one-place ns i j rises within inside same = elim (cases_eq i j) as (λ _. i ≡ j) [
  | inl is ↦ is
  | inr apart ↦ elim (cases_lt i j) as (λ _. i ≡ j) [
    | inl below ↦ let less = rises i j below inside in absurd (omega (arith, less, same))
    | inr above ↦ let over : j < i = omega (arith, above, apart) in let less = rises j i over within in absurd (omega (arith, less, same))
  ]
]

-- equal keys have one place
pub key-place : (index : Option (List ℕ) → Option ℕ) (ks : List (Option (List ℕ))) (ns : List ℕ) (i j : ℕ) → Rises ns → IsKeyed index ks ns
    → i < length ns → j < length ns → get_or ks i None ≡ get_or ks j None → i ≡ j
key-place index ks ns i j rises keyed within inside same =
    one-place ns i j rises within inside
    (same_Some (get_or ns i 0) (get_or ns j 0) (sym (keyed i within) ∙ ap index same ∙ keyed j inside))

-- the first place that passes
place-at : {X : Type 0} (p : X → Bool) (xs : List X) (i : ℕ) (d : X) → i < length xs → p (get_or xs i d) ≡ true
    → ((k : ℕ) → k < i → p (get_or xs k d) ≡ false) → position_or_len p xs ≡ i
place-at p [] i d within here before = absurd (omega (arith, within))
place-at p (x ∷ xs) zero d within here before = rw here refl
place-at p (x ∷ xs) (suc i) d within here before =
    let first : p x ≡ false = before 0 (omega arith) in
    let later = place-at p xs i d (omega (arith, within)) here (λ k less. before (suc k) (omega (arith, less))) in
    let next : 1 + i ≡ suc i = omega arith in
    rw (first, later) next

place-none : {X : Type 0} (p : X → Bool) (xs : List X) (d : X) → ((k : ℕ) → k < length xs → p (get_or xs k d) ≡ false) → position_or_len p xs ≡ length xs
place-none p [] d none = refl
place-none p (x ∷ xs) d none =
    let first : p x ≡ false = none 0 (omega arith) in
    let later = place-none p xs d (λ k less. none (suc k) (omega (arith, less))) in
    let next : 1 + length xs ≡ suc (length xs) = omega arith in
    rw (first, later) next

place-within : {X : Type 0} (p : X → Bool) (xs : List X) (i : ℕ) (d : X) → i < length xs → p (get_or xs i d) ≡ true → position_or_len p xs < length xs
place-within p [] i d within here = absurd (omega (arith, within))
place-within p (x ∷ xs) zero d within here = rw here (omega arith)
place-within p (x ∷ xs) (suc i) d within here =
    let later = place-within p xs i d (omega (arith, within)) here in
    elim (cases_Bool (p x)) as (λ _. position_or_len p (x ∷ xs) < length (x ∷ xs)) [
      | inl first ↦ rw first (omega arith)
      | inr other ↦ rw other (omega (arith, later))
    ]

-- the position of the only element that passes
pub only-place : {X : Type 0} (p : X → Bool) (xs : List X) (i : ℕ) (d : X) → i < length xs → p (get_or xs i d) ≡ true
    → ((k : ℕ) → k < length xs → p (get_or xs k d) ≡ true → k ≡ i) → position p xs ≡ Some i
only-place p xs i d within here only =
    let at = place-at p xs i d within here (λ k less. elim (cases_Bool (p (get_or xs k d))) as (λ _. p (get_or xs k d) ≡ false) [
      | inl passed ↦ let same = only k (omega (arith, less, within)) passed in absurd (omega (arith, same, less))
      | inr failed ↦ failed
    ]) in
    rw (at, lt-ltb i (length xs) within) refl

-- no position where no element passes
pub no-place : {X : Type 0} (p : X → Bool) (xs : List X) (d : X) → ((k : ℕ) → k < length xs → p (get_or xs k d) ≡ true → ⊥) → position p xs ≡ None
no-place p xs d none =
    let at = place-none p xs d (λ k less. elim (cases_Bool (p (get_or xs k d))) as (λ _. p (get_or xs k d) ≡ false) [
      | inl passed ↦ absurd (none k less passed)
      | inr failed ↦ failed
    ]) in
    rw (at, le-ltb (length xs) (length xs) (omega arith)) refl

-- no element passes where there is no position
pub none-passes : {X : Type 0} (p : X → Bool) (xs : List X) (i : ℕ) (d : X) → position p xs ≡ None → i < length xs → p (get_or xs i d) ≡ true → ⊥
none-passes p xs i d none within here =
    let inside = lt-ltb (position_or_len p xs) (length xs) (place-within p xs i d within here) in
    grind (arith, none, inside)

-- a suite has its own key, and no other
has-own-at : (own : Option (List ℕ)) (s : SuiteState) → s.key ≡ own → has_key own s ≡ true
has-own-at None s is = rw is refl
has-own-at (Some key) s is = rw is (grind (arith, bytes_eq-Decides key key))

own-by : (key own : Option (List ℕ)) (s : SuiteState) → s.key ≡ own → has_key key s ≡ true → own ≡ key
own-by None None s is has = refl
own-by None (Some own) s is has = absurd (false≢true (sym (ap is_none is) ∙ has))
own-by (Some key) None s is has = absurd (false≢true (sym (ap (λ k. option_map_or (λ own. bytes_eq own key) k false) is) ∙ has))
own-by (Some key) (Some own) s is has =
    let same : bytes_eq own key ≡ true = sym (ap (λ k. option_map_or (λ own. bytes_eq own key) k false) is) ∙ has in
    let names : own ≡ key = grind (arith, same, bytes_eq-Decides own key) in
    ap (λ k. Some k) names

pub own-key : (key : Option (List ℕ)) (s : SuiteState) → has_key key s ≡ true → s.key ≡ key
own-key key s has = own-by key s.key s refl has

-- the keys and the numbers of suites, by what they keep
pub keys-states : (suites : List (Box Suite Global)) → keys_in suites ≡ map (λ s. s.key) (states_in suites)
keys-states [] = refl
keys-states (b ∷ suites) = ap (λ keys. text_view b.value.name.key ∷ keys) (keys-states suites)

pub numbers-states : (suites : List (Box Suite Global)) → numbers_in suites ≡ map (λ s. s.number) (states_in suites)
numbers-states [] = refl
numbers-states (b ∷ suites) = ap (λ numbers. b.value.name.number ∷ numbers) (numbers-states suites)

-- as many suites as numbers
pub as-many : (suites : List (Box Suite Global)) (ns : List ℕ) → numbers_in suites ≡ map Some ns → length suites ≡ length ns
as-many suites ns same =
    sym (length-map suites (λ b. b.value.name.number)) ∙ ap (λ xs. length xs) same ∙ length-map ns (λ n. Some n)

-- the place before a removal
abbrev from : ℕ → ℕ → ℕ
from at i = cond (nat_lt i at) i (i + 1)

from-below : (at i : ℕ) → i < at → from at i ≡ i
from-below at i below = rw (lt-ltb i at below) refl

from-above : (at i : ℕ) → at ≤ i → from at i ≡ i + 1
from-above at i above = rw (le-ltb i at above) refl

from-apart : (at i : ℕ) → from at i ≡ at → ⊥
from-apart at i same = elim (cases_lt i at) as (λ _. ⊥) [
  | inl below ↦ let is = from-below at i below in omega (arith, is, same, below)
  | inr above ↦ let is = from-above at i above in omega (arith, is, same, above)
]

from-within : (at i n : ℕ) → i + 1 < n + 1 → from at i < n + 1
from-within at i n within = elim (cases_lt i at) as (λ _. from at i < n + 1) [
  | inl below ↦ let is = from-below at i below in omega (arith, is, within)
  | inr above ↦ let is = from-above at i above in omega (arith, is, within)
]

from-rises : (at i j : ℕ) → i < j → from at i < from at j
from-rises at i j less = elim (cases_lt i at) as (λ _. from at i < from at j) [
  | inl below ↦ let first = from-below at i below in elim (cases_lt j at) as (λ _. from at i < from at j) [
    | inl under ↦ let second = from-below at j under in omega (arith, first, second, less)
    | inr over ↦ let second = from-above at j over in omega (arith, first, second, less)
  ]
  | inr above ↦ let first = from-above at i above in let second = from-above at j (omega (arith, above, less)) in omega (arith, first, second, less)
]

removed-get : {X : Type 0} (xs : List X) (at i : ℕ) (d : X) → at < length xs → get_or (remove xs at) i d ≡ get_or xs (from at i) d
removed-get xs at i d inside = elim (cases_lt i at) as (λ _. get_or (remove xs at) i d ≡ get_or xs (from at i) d) [
  | inl below ↦ get_or-remove_below xs at d i below inside ∙ ap (λ n. get_or xs n d) (sym (from-below at i below))
  | inr above ↦ get_or-remove_above xs at d i above inside ∙ ap (λ n. get_or xs n d) (sym (from-above at i above))
]

-- the place of an element after a removal, before it
removed-within : {X : Type 0} (xs : List X) (at i : ℕ) → at < length xs → i < length (remove xs at) → from at i < length xs
removed-within xs at i inside within =
    let long = length-remove xs at inside in
    let there = from-within at i (length (remove xs at)) (omega (arith, within)) in
    omega (arith, long, there)

-- the numbers without one of them rise
pub removed-rises : (ns : List ℕ) (at : ℕ) → Rises ns → at < length ns → Rises (remove ns at)
removed-rises ns at rises inside = λ i j less within.
    rw (removed-get ns at i 0 inside, removed-get ns at j 0 inside)
    (rises (from at i) (from at j) (from-rises at i j less) (removed-within ns at j inside within))

pub removed-below : (bound : ℕ) (ns : List ℕ) (at : ℕ) → IsUpTo bound ns → at < length ns → IsUpTo bound (remove ns at)
removed-below bound ns at below inside = λ i within.
    rw (removed-get ns at i 0 inside) (below (from at i) (removed-within ns at i inside within))

-- the index without the key of a suite that is removed
pub removed-keyed : (index left : Option (List ℕ) → Option ℕ) (ks : List (Option (List ℕ))) (ns : List ℕ) (at : ℕ) → Rises ns → IsKeyed index ks ns
    → at < length ns → length ks ≡ length ns → ((other : Option (List ℕ)) → (other ≡ get_or ks at None → ⊥) → left other ≡ index other)
    → IsKeyed left (remove ks at) (remove ns at)
removed-keyed index left ks ns at rises keyed inside long others = λ i within.
    let j = from at i in
    let there = removed-within ns at i inside within in
    let apart : get_or ks j None ≡ get_or ks at None → ⊥ = λ same. from-apart at i (key-place index ks ns j at rises keyed there inside same) in
    rw (removed-get ks at i None (omega (arith, inside, long)), removed-get ns at i 0 inside)
    (others (get_or ks j None) apart ∙ keyed j there)

-- no suite that is left has the key of the one that is removed
pub removed-key : (index : Option (List ℕ) → Option ℕ) (ss : List SuiteState) (ns : List ℕ) (at : ℕ) (s : SuiteState) → Rises ns
    → IsKeyed index (map (λ t. t.key) ss) ns → at < length ns → length ss ≡ length ns → get_or ss at s ≡ s → position (has_key s.key) (remove ss at) ≡ None
removed-key index ss ns at s rises keyed inside long is = no-place (has_key s.key) (remove ss at) s (λ k within has.
    let spot : at < length ss = omega (arith, inside, long) in
    let j = from at k in
    let there = removed-within ss at k spot within in
    let key : (get_or ss j s).key ≡ s.key = own-key s.key (get_or ss j s) (rw (sym (removed-get ss at k s spot)) has) in
    let same : get_or (map (λ t. t.key) ss) j None ≡ get_or (map (λ t. t.key) ss) at None =
    get_or-map (λ t. t.key) ss j s None there ∙ key ∙ ap (λ (t : SuiteState). t.key) (sym is) ∙ sym (get_or-map (λ t. t.key) ss at s None spot) in
    from-apart at k (key-place index (map (λ t. t.key) ss) ns j at rises keyed (omega (arith, there, long)) inside same))

-- the numbers with a higher one rise
pub pushed-rises : (bound n : ℕ) (ns : List ℕ) → Rises ns → IsUpTo bound ns → bound < n → Rises (ns ++ n ∷ [])
pushed-rises bound n ns rises below over = λ i j less within.
    let long = length-append ns (n ∷ []) in
    let first = get_or_append_left ns (n ∷ []) 0 i (omega (arith, long, less, within)) in
    elim (cases_lt j (length ns)) as (λ _. get_or (ns ++ n ∷ []) i 0 < get_or (ns ++ n ∷ []) j 0) [
      | inl inside ↦ let second = get_or_append_left ns (n ∷ []) 0 j inside in rw (first, second) (rises i j less inside)
      | inr past ↦
          let last : length ns ≡ j = omega (arith, past, long, within) in
          let second = get_or_push ns n 0 j last in
          let under = below i (omega (arith, less, last)) in
          rw (first, second) (omega (arith, under, over))
    ]

pub pushed-below : (bound n : ℕ) (ns : List ℕ) → IsUpTo bound ns → bound < n → IsUpTo n (ns ++ n ∷ [])
pushed-below bound n ns below over = λ i within.
    let long = length-append ns (n ∷ []) in
    elim (cases_lt i (length ns)) as (λ _. get_or (ns ++ n ∷ []) i 0 ≤ n) [
      | inl inside ↦ let under = below i inside in rw (get_or_append_left ns (n ∷ []) 0 i inside) (omega (arith, under, over))
      | inr past ↦ let last : length ns ≡ i = omega (arith, past, long, within) in rw (get_or_push ns n 0 i last) (omega arith)
    ]

-- the index with one more key
pub pushed-keyed : (index more : Option (List ℕ) → Option ℕ) (ks : List (Option (List ℕ))) (ns : List ℕ) (key : Option (List ℕ)) (n : ℕ)
    → IsKeyed index ks ns → length ks ≡ length ns → ((i : ℕ) → i < length ns → get_or ks i None ≡ key → ⊥) → more key ≡ Some n
    → ((other : Option (List ℕ)) → (other ≡ key → ⊥) → more other ≡ index other) → IsKeyed more (ks ++ key ∷ []) (ns ++ n ∷ [])
pushed-keyed index more ks ns key n keyed long apart set others = λ i within.
    let size = length-append ns (n ∷ []) in
    elim (cases_lt i (length ns)) as (λ _. more (get_or (ks ++ key ∷ []) i None) ≡ Some (get_or (ns ++ n ∷ []) i 0)) [
      | inl inside ↦
          rw (get_or_append_left ks (key ∷ []) None i (omega (arith, inside, long)), get_or_append_left ns (n ∷ []) 0 i inside)
          (others (get_or ks i None) (apart i inside) ∙ keyed i inside)
      | inr past ↦
          let last : length ns ≡ i = omega (arith, past, size, within) in
          rw (get_or_push ks key None i (long ∙ last), get_or_push ns n 0 i last) set
    ]

-- no suite has a key that no position has
pub keys-apart : (ss : List SuiteState) (key : Option (List ℕ)) (i : ℕ) → position (has_key key) ss ≡ None → i < length ss
    → get_or (map (λ s. s.key) ss) i None ≡ key → ⊥
keys-apart ss key i none within same =
    let d : SuiteState = outside_start in
    let own : (get_or ss i d).key ≡ key = sym (get_or-map (λ s. s.key) ss i d None within) ∙ same in
    none-passes (has_key key) ss i d none within (has-own-at key (get_or ss i d) own)

-- the number of a suite that has a key is that of the key
keyed-number : (index : Option (List ℕ) → Option ℕ) (ss : List SuiteState) (ns : List ℕ) (key : Option (List ℕ)) (k : ℕ) (d : SuiteState)
    → IsKeyed index (map (λ s. s.key) ss) ns → length ss ≡ length ns → k < length ss → has_key key (get_or ss k d) ≡ true → index key ≡ Some (get_or ns k 0)
keyed-number index ss ns key k d keyed long within has =
    let same : get_or (map (λ s. s.key) ss) k None ≡ key =
    get_or-map (λ s. s.key) ss k d None within ∙ own-key key (get_or ss k d) has in
    ap index (sym same) ∙ keyed k (omega (arith, within, long))

-- the position of the suite that has a key
pub key-found : (index : Option (List ℕ) → Option ℕ) (ss : List SuiteState) (ns : List ℕ) (key : Option (List ℕ)) (at : ℕ) (d : SuiteState) → Rises ns
    → IsKeyed index (map (λ s. s.key) ss) ns → length ss ≡ length ns → at < length ns → has_key key (get_or ss at d) ≡ true
    → position (has_key key) ss ≡ Some at
key-found index ss ns key at d rises keyed long inside has =
    let spot : at < length ss = omega (arith, inside, long) in
    only-place (has_key key) ss at d spot has (λ k within passed.
    one-place ns k at rises (omega (arith, within, long)) inside (same_Some (get_or ns k 0) (get_or ns at 0)
    (sym (keyed-number index ss ns key k d keyed long within passed) ∙ keyed-number index ss ns key at d keyed long spot has)))

-- no suite has a key without a number
pub key-unknown : (index : Option (List ℕ) → Option ℕ) (ss : List SuiteState) (ns : List ℕ) (key : Option (List ℕ))
    → IsKeyed index (map (λ s. s.key) ss) ns → length ss ≡ length ns → index key ≡ None → position (has_key key) ss ≡ None
key-unknown index ss ns key keyed long none = no-place (has_key key) ss outside_start (λ k within passed.
    none-some (get_or ns k 0) (sym none ∙ keyed-number index ss ns key k outside_start keyed long within passed))

-- no suite has a key whose number no suite has
pub key-gone : (index : Option (List ℕ) → Option ℕ) (ss : List SuiteState) (ns : List ℕ) (key : Option (List ℕ)) (n : ℕ)
    → IsKeyed index (map (λ s. s.key) ss) ns → length ss ≡ length ns → index key ≡ Some n → ((k : ℕ) → k < length ns → get_or ns k 0 ≡ n → ⊥)
    → position (has_key key) ss ≡ None
key-gone index ss ns key n keyed long is gone = no-place (has_key key) ss outside_start (λ k within passed.
    gone k (omega (arith, within, long))
    (same_Some (get_or ns k 0) n (sym (keyed-number index ss ns key k outside_start keyed long within passed) ∙ is)))

-- no suite has a key that the suite of its number has not
pub key-other : (index : Option (List ℕ) → Option ℕ) (ss : List SuiteState) (ns : List ℕ) (key : Option (List ℕ)) (at : ℕ) (d : SuiteState) → Rises ns
    → IsKeyed index (map (λ s. s.key) ss) ns → length ss ≡ length ns → at < length ns → index key ≡ Some (get_or ns at 0)
    → has_key key (get_or ss at d) ≡ false → position (has_key key) ss ≡ None
key-other index ss ns key at d rises keyed long inside is lacks = no-place (has_key key) ss d (λ k within passed.
    let same = one-place ns k at rises (omega (arith, within, long)) inside
    (same_Some (get_or ns k 0) (get_or ns at 0) (sym (keyed-number index ss ns key k d keyed long within passed) ∙ is)) in
    false≢true (sym lacks ∙ ap (λ i. has_key key (get_or ss i d)) (sym same) ∙ passed))

-- the position of a number
pub number-place : (ss : List SuiteState) (ns : List ℕ) (number : Option ℕ) → map (λ s. s.number) ss ≡ map Some ns
    → position (λ s. is_same s.number number) ss ≡ position (λ n. is_same (Some n) number) ns
number-place ss ns number same =
    sym (position-map (λ o. is_same o number) (λ (s : SuiteState). s.number) ss)
    ∙ ap (position (λ o. is_same o number)) same ∙ position-map (λ o. is_same o number) (λ n. Some n) ns

pub no-number : (ns : List ℕ) → position (λ n. is_same (Some n) None) ns ≡ None
no-number ns = no-place (λ n. is_same (Some n) None) ns 0 (λ k within passed. false≢true passed)

-- numbers that rise are in order
pub rises-le : (ns : List ℕ) → Rises ns → (i j : ℕ) → i ≤ j → j < length ns → get_or ns i 0 ≤ get_or ns j 0
rises-le ns rises i j upto within = elim (cases_eq i j) as (λ _. get_or ns i 0 ≤ get_or ns j 0) [
  | inl same ↦ rw same (omega arith)
  | inr apart ↦ let less = rises i j (omega (arith, upto, apart)) within in omega (arith, less)
]

pub number-found : (ns : List ℕ) (x i : ℕ) → Rises ns → i < length ns → get_or ns i 0 ≡ x → position (λ n. is_same (Some n) (Some x)) ns ≡ Some i
number-found ns x i rises within is = only-place (λ n. n == x) ns i 0 within (grind (arith, nat_tests, is))
    (λ k inside passed. let same : get_or ns k 0 ≡ x = grind (arith, nat_tests, passed) in one-place ns k i rises inside within (same ∙ sym is))

pub number-absent : (ns : List ℕ) (x : ℕ) → ((k : ℕ) → k < length ns → get_or ns k 0 ≡ x → ⊥) → position (λ n. is_same (Some n) (Some x)) ns ≡ None
number-absent ns x absent = no-place (λ n. n == x) ns 0 (λ k inside passed.
    let same : get_or ns k 0 ≡ x = grind (arith, nat_tests, passed) in absent k inside same)

-- a search that finds nothing
pub not-there : (ns : List ℕ) (x i : ℕ) → ((k : ℕ) → k < i → get_or ns k 0 < x) → ((k : ℕ) → i ≤ k → k < length ns → x < get_or ns k 0)
    → (k : ℕ) → k < length ns → get_or ns k 0 ≡ x → ⊥
not-there ns x i under over k within same = elim (cases_lt k i) as (λ _. ⊥) [
  | inl below ↦ let less = under k below in omega (arith, less, same)
  | inr above ↦ let more = over k above within in omega (arith, more, same)
]

-- the same of open suites
pub numbers-of : (o : OpenSuites) → map (λ s. s.number) (suites_of o) ≡ map Some o.numbers.items
numbers-of o = sym (numbers-states o.list.items) ∙ o.numbered

pub keyed-of : (o : OpenSuites) → IsKeyed (number_at o.keys) (map (λ s. s.key) (suites_of o)) o.numbers.items
keyed-of o = rw (sym (keys-states o.list.items)) o.keyed

pub long-of : (o : OpenSuites) → length (suites_of o) ≡ length o.numbers.items
long-of o = length-map o.list.items (λ b. state_of b.value) ∙ as-many o.list.items o.numbers.items o.numbered

-- what a search of a number finds
pub search-place : (ns : List ℕ) (x : ℕ) (r : Result ℕ ℕ) → Rises ns → IsBinarySearchResult (λ y. nat_cmp y x) ns r
    → position (λ n. is_same (Some n) (Some x)) ns ≡ result_ok r
search-place ns x (Ok i) rises found = let s = searched ns x (Ok i) found (rises-le ns rises) in number-found ns x i rises s.0 s.1
search-place ns x (Err i) rises found =
    let s = searched ns x (Err i) found (rises-le ns rises) in number-absent ns x (not-there ns x i s.1 s.2)

pub search-found : (ns : List ℕ) (x i : ℕ) (r : Result ℕ ℕ) → Rises ns → IsBinarySearchResult (λ y. nat_cmp y x) ns r → result_ok r ≡ Some i
    → (i < length ns) × (get_or ns i 0 ≡ x)
search-found ns x i (Ok j) rises found is = let s = searched ns x (Ok j) found (rises-le ns rises) in rw (sym (same_Some j i is)) s
search-found ns x i (Err j) rises found is = absurd (none-some i is)

pub search-gone : (ns : List ℕ) (x : ℕ) (r : Result ℕ ℕ) → Rises ns → IsBinarySearchResult (λ y. nat_cmp y x) ns r → result_ok r ≡ None
    → (k : ℕ) → k < length ns → get_or ns k 0 ≡ x → ⊥
search-gone ns x (Ok j) rises found is = absurd (none-some j (sym is))
search-gone ns x (Err j) rises found is = let s = searched ns x (Err j) found (rises-le ns rises) in not-there ns x j s.1 s.2

-- a suite that is found at a place
pub state-at : (suites : List (Box Suite Global)) (at : ℕ) (b : Box Suite Global) (d : SuiteState) → at < length suites → b ≡ get_or suites at b
    → get_or (states_in suites) at d ≡ state_of b.value
state-at suites at b d within is =
    get_or-map (λ (x : Box Suite Global). state_of x.value) suites at b d within ∙ ap (λ (x : Box Suite Global). state_of x.value) (sym is)

pub key-at : (suites : List (Box Suite Global)) (at : ℕ) (b : Box Suite Global) → at < length suites → b ≡ get_or suites at b
    → get_or (keys_in suites) at None ≡ text_view b.value.name.key
key-at suites at b within is =
    get_or-map (λ (x : Box Suite Global). text_view x.value.name.key) suites at b None within
    ∙ ap (λ (x : Box Suite Global). text_view x.value.name.key) (sym is)

-- one more suite
pub pushed-number : (suites : List (Box Suite Global)) (b : Box Suite Global) (ns : List ℕ) (n : ℕ) → numbers_in suites ≡ map Some ns
    → b.value.name.number ≡ Some n → numbers_in (suites ++ b ∷ []) ≡ map Some (ns ++ n ∷ [])
pushed-number suites b ns n same is =
    map-append (λ x. x.value.name.number) suites (b ∷ []) ∙ ap (λ xs. xs ++ b.value.name.number ∷ []) same
    ∙ ap (λ o. map Some ns ++ o ∷ []) is ∙ sym (map-append (λ n. Some n) ns (n ∷ []))

pub pushed-key : (suites : List (Box Suite Global)) (b : Box Suite Global) → keys_in (suites ++ b ∷ []) ≡ keys_in suites ++ text_view b.value.name.key ∷ []
pushed-key suites b = map-append (λ x. text_view x.value.name.key) suites (b ∷ [])

-- a suite that keeps its number and its key changes
pub set-kept : {X Y : Type 0} (f : X → Y) (xs : List X) (i : ℕ) (old new : X) → old ≡ get_or xs i old → f new ≡ f old → map f (set xs i new) ≡ map f xs
set-kept f [] i old new found kept = refl
set-kept f (x ∷ xs) zero old new found kept = ap (λ y. y ∷ map f xs) (kept ∙ ap f found)
set-kept f (x ∷ xs) (suc i) old new found kept = ap (λ ys. f x ∷ ys) (set-kept f xs i old new found kept)

pub number-kept : (suites : List (Box Suite Global)) (at : ℕ) (old : Box Suite Global) (inside changed : Suite) → old ≡ get_or suites at old
    → inside ≡ old.value → changed.name.number ≡ inside.name.number → numbers_in (set suites at (with_value old changed)) ≡ numbers_in suites
number-kept suites at old inside changed found opened kept =
    set-kept (λ (b : Box Suite Global). b.value.name.number) suites at old (with_value old changed) found
    (kept ∙ ap (λ (s : Suite). s.name.number) opened)

pub key-kept : (suites : List (Box Suite Global)) (at : ℕ) (old : Box Suite Global) (inside changed : Suite) → old ≡ get_or suites at old
    → inside ≡ old.value → text_view changed.name.key ≡ text_view inside.name.key → keys_in (set suites at (with_value old changed)) ≡ keys_in suites
key-kept suites at old inside changed found opened kept =
    set-kept (λ (b : Box Suite Global). text_view b.value.name.key) suites at old (with_value old changed) found
    (kept ∙ ap (λ (s : Suite). text_view s.name.key) opened)
