-- What one more value does to the places of values that are kept in the order of a number, and of their arrival.
use Rattle.std.proofs.Common.{◌≡◌, ◌∙◌, ℕ, suc, subst, sym, List, [], ◌∷◌, ◌+◌, ◌<◌, ◌≤◌, inl, inr, true, false, nat_lt, refl, ap, arith, length, OnErr, OnOk, Result, Ok, Err}
use Rattle.std.specs.BTreeMap.{insert_entry}
use Rattle.std.specs.List.{insert, position_or_len}
use Rattle.std.specs.Map.{values_of}
use Rattle.std.specs.Ordering.{nat_cmp}
use Rattle.std.specs.declared.cmp.Ordering.TheVariants.{Equal, Greater, Less}
use Rattle.std.proofs.lemmas.Bool.{cases_eq, cases_lt, le-ltb, lt-ltb}
use Rattle.std.proofs.lemmas.Bool.Decides.{nat_tests}
use Rattle.std.proofs.lemmas.List.Elements.{All-cons, All-head, All-tail, All-weaker}
use Rattle.test_report_run_notes.specs.InOrder.{IsPlaced, place_cmp}

-- values that are kept in the order of a number of their own
module _ {X : Type 0} (own-number : X → ℕ) where
  -- a value at its place
  abbrev Entry : Type 0
  Entry = (ℕ × ℕ) × X

  abbrev IsOwn : ℕ → Entry → Type 0
  IsOwn n e = (e.0.0 ≡ own-number e.1) × (e.0.1 < n)

  -- a new place is before those of the values with a greater number, and behind all others
  before : (order n : ℕ) (e : Entry) → order < e.0.0 → place_cmp (order, n) e.0 ≡ Less
  before order n e later =
      let less : nat_cmp order e.0.0 ≡ Less = grind (arith, nat_tests, later) in
      rw less refl

  behind : (order n : ℕ) (e : Entry) → e.0.0 ≤ order → e.0.1 < n → place_cmp (order, n) e.0 ≡ Greater
  behind order n e upto under = elim (cases_eq order e.0.0) as (λ _. place_cmp (order, n) e.0 ≡ Greater) [
    | inl same ↦
        let equal : nat_cmp order e.0.0 ≡ Equal = grind (arith, nat_tests, same) in
        let more : nat_cmp n e.0.1 ≡ Greater = grind (arith, nat_tests, under) in
        rw (equal, more) refl
    | inr apart ↦
        let more : nat_cmp order e.0.0 ≡ Greater = grind (arith, nat_tests, upto, apart) in
        rw more refl
  ]

  -- the values in order, with one more
  pub values-more : (es : List Entry) (order n : ℕ) (x : X) → IsPlaced own-number n es
      → values_of (insert_entry place_cmp es (order, n) x) ≡ insert (values_of es) (position_or_len (λ t. nat_lt order (own-number t)) (values_of es)) x
  values-more [] order n x placed = refl
  values-more (e ∷ es) order n x placed =
      let own = All-head (IsOwn n) e es placed in
      elim (cases_lt order e.0.0) as (λ _. values_of (insert_entry place_cmp (e ∷ es) (order, n) x)
      ≡ insert (values_of (e ∷ es)) (position_or_len (λ t. nat_lt order (own-number t)) (values_of (e ∷ es))) x) [
        | inl later ↦
            let here : nat_lt order (own-number e.1) ≡ true = lt-ltb order (own-number e.1) (omega (arith, later, own.0)) in
            rw (before order n e later, here) refl
        | inr upto ↦
            let there : nat_lt order (own-number e.1) ≡ false = le-ltb order (own-number e.1) (omega (arith, upto, own.0)) in
            let k = position_or_len (λ t. nat_lt order (own-number t)) (values_of es) in
            let next : 1 + k ≡ suc k = omega arith in
            rw (behind order n e upto own.1, there, next) (ap (λ ts. e.1 ∷ ts) (values-more es order n x (All-tail (IsOwn n) e es placed)))
      ]

  -- the places with one more
  wider : (es : List Entry) (n : ℕ) → IsPlaced own-number n es → IsPlaced own-number (n + 1) es
  wider es n placed = All-weaker (IsOwn n) (IsOwn (n + 1)) (λ e own. (own.0, omega (arith, own.1))) es placed

  pub placed-more : (es : List Entry) (order n : ℕ) (x : X) → order ≡ own-number x → IsPlaced own-number n es
      → IsPlaced own-number (n + 1) (insert_entry place_cmp es (order, n) x)
  placed-more [] order n x is placed =
      All-cons (IsOwn (n + 1)) ((order, n), x) [] (is, omega arith) (λ k d less. absurd (omega (arith, less)))
  placed-more (e ∷ es) order n x is placed =
      let own = All-head (IsOwn n) e es placed in
      elim (cases_lt order e.0.0) as (λ _. IsPlaced own-number (n + 1) (insert_entry place_cmp (e ∷ es) (order, n) x)) [
        | inl later ↦
            rw (before order n e later) (All-cons (IsOwn (n + 1)) ((order, n), x) (e ∷ es) (is, omega arith) (wider (e ∷ es) n placed))
        | inr upto ↦
            rw (behind order n e upto own.1) (All-cons (IsOwn (n + 1)) e (insert_entry place_cmp es (order, n) x) (own.0, omega (arith, own.1))
            (placed-more es order n x is (All-tail (IsOwn n) e es placed)))
      ]

  pub count-more : (es : List Entry) (order n : ℕ) (x : X) → IsPlaced own-number n es
      → length (insert_entry place_cmp es (order, n) x) ≡ length es + 1
  count-more [] order n x placed = omega arith
  count-more (e ∷ es) order n x placed =
      let own = All-head (IsOwn n) e es placed in
      elim (cases_lt order e.0.0) as (λ _. length (insert_entry place_cmp (e ∷ es) (order, n) x) ≡ length (e ∷ es) + 1) [
        | inl later ↦ rw (before order n e later) (omega arith)
        | inr upto ↦
            let more = count-more es order n x (All-tail (IsOwn n) e es placed) in
            rw (behind order n e upto own.1) (omega (arith, more))
      ]

  -- the places after a value is added, or is not
  pub placed-after : {A B : Type 0} (r : Result A B) (es after : List Entry) (n : ℕ) (x : X) → n ≡ length es
      → OnOk r (after ≡ insert_entry place_cmp es (own-number x, n) x) → OnErr r (after ≡ es) → IsPlaced own-number (length es) es
      → IsPlaced own-number (length after) after
  placed-after (Ok a) es after n x count more same placed =
      let own : IsPlaced own-number n es = rw count placed in
      let long : n + 1 ≡ length after = ap (λ m. m + 1) count ∙ sym (count-more es (own-number x) n x own) ∙ ap (λ all. length all) (sym more) in
      subst (λ m. IsPlaced own-number m after) long (subst (λ all. IsPlaced own-number (n + 1) all) (sym more) (placed-more es (own-number x) n x refl own))
  placed-after (Err e) es after n x count more same placed = rw same placed
