-- The value of digits.
use Rattle.std.proofs.Common.{◌≡◌, ◌∙◌, refl, ℕ, suc, ◌+◌, ◌-◌, ◌*◌, ◌/◌, ◌^◌, ◌<◌, ◌≤◌, min, List, [], ◌∷◌, ◌++◌, length, length-drop, take-append-drop, length-take, take_all, get_or, take, drop, arith, sym, ap, true}
use Rattle.std.proofs.lemmas.Bool.{cases_lt}
use Rattle.std.proofs.lemmas.Bool.Decides.{nat_tests}
use Rattle.std.proofs.lemmas.Int.Digits.{digits_value_more}
use Rattle.std.proofs.lemmas.List.Elements.{All-drop, All-take, All-nil, All-head, All-tail, All-cons}
use Rattle.std.proofs.lemmas.Str.Parse.{IsDigitsTest, IsNumeralModel, numerals_by_value, digits_value_short, digits_value-take-le}
use Rattle.std.proofs.lemmas.Nat.{div-mul-add, pow-add}
use Rattle.std.proofs.Math.Logic.{⊎_elim}
use Rattle.std.proofs.Math.Nat.{add-mul, mul_assoc, mul_comm, pow-suc, mul-div_cancel, one-le-pow, pow-le-pow_right, mul-lt-mul_of_pos_right}
use Rattle.std.specs.Char.{digit_value, is_ascii_digit}
use Rattle.std.specs.Str.Parse.{digits_value, digits_value_after}
use Rattle.test_report_events.specs.Time.{AreDigits}

digit-value : (c : ℕ) → is_ascii_digit c ≡ true → (digit_value c ≡ c - 48) × (48 ≤ c) × (c ≤ 57)
digit-value c h = grind (arith, nat_tests)

-- one digit more
pub value_next : (ds : List ℕ) (i v : ℕ) → v ≡ digits_value 10 (take i ds) → i < length ds → AreDigits ds → digits_value 10 ds < 1000000000
    → (digits_value 10 (take (i + 1) ds) ≡ v * 10 + (get_or ds i 0 - 48)) × (v * 10 + (get_or ds i 0 - 48) < 1000000000)
value_next ds i v is inside all few =
    let d = digit-value (get_or ds i 0) (all i 0 inside) in
    let more = digits_value_more 10 ds i inside in
    let less = digits_value-take-le 10 ds (i + 1) (omega arith) in
    (omega (arith, d, more, is), omega (arith, d, more, is, less, few))

-- digits are numerals
digits-test : IsDigitsTest AreDigits
digits-test = record {
  empty = All-nil (λ c. is_ascii_digit c ≡ true);
  parts = λ c cs h. let d = digit-value c (All-head (λ x. is_ascii_digit x ≡ true) c cs h) in ((d.1, d.2), All-tail (λ x. is_ascii_digit x ≡ true) c cs h);
  more = λ c cs r h. All-cons (λ x. is_ascii_digit x ≡ true) c cs (grind (arith, nat_tests)) h;
}

numerals : IsNumeralModel AreDigits (digits_value 10)
numerals = numerals_by_value AreDigits digits-test

pub value_short : (ds : List ℕ) → AreDigits ds → length ds ≤ 9 → digits_value 10 ds < 1000000000
value_short ds all few = digits_value_short numerals ds 9 all few

value-after : (n : ℕ) (ds : List ℕ) → digits_value_after 10 n ds ≡ n * 10 ^ length ds + digits_value 10 ds
value-after n [] = omega arith
value-after n (c ∷ cs) =
    let p = 10 ^ length cs in
    let d = digit_value c in
    let first = add-mul (n * 10) d p in
    let power : n * 10 * p ≡ n * 10 ^ suc (length cs) = mul_assoc n 10 p ∙ ap (λ x. n * x) (mul_comm 10 p ∙ sym (pow-suc 10 (length cs))) in
    let none : (0 * 10 + d) * p ≡ d * p = ap (λ x. x * p) (omega arith) in
    omega (arith, value-after (n * 10 + d) cs, value-after (0 * 10 + d) cs, first, power, none)

value-append : (n : ℕ) (a b : List ℕ) → digits_value_after 10 n (a ++ b) ≡ digits_value_after 10 (digits_value_after 10 n a) b
value-append n [] b = refl
value-append n (c ∷ a) b = value-append (n * 10 + digit_value c) a b

-- the first six digits after a point
six-digits : (ds : List ℕ) (size : ℕ) → AreDigits ds → size ≡ min (length ds) 6 → digits_value 10 (take size ds) < 10 ^ size
six-digits ds size all is =
    digits_value_short numerals (take size ds) size (All-take (λ c. is_ascii_digit c ≡ true) size ds all) (omega (arith, length-take size ds))

six-power : (size : ℕ) → size ≤ 6 → 10 ^ (6 - size) * 10 ^ size ≡ 1000000
six-power size few = let all : 6 - size + size ≡ 6 = omega arith in sym (pow-add 10 (6 - size) size) ∙ ap (λ n. 10 ^ n) all

pub fraction_bound : (ds : List ℕ) (size : ℕ) → AreDigits ds → size ≡ min (length ds) 6
    → (digits_value 10 (take size ds) < 1000000000) × (digits_value 10 (take size ds) * 10 ^ (6 - size) < 1000000)
fraction_bound ds size all is =
    let v = six-digits ds size all is in
    let few : size ≤ 9 = omega (arith, is) in
    let p = pow-le-pow_right {n = 10} (omega arith) few in
    let m = mul-lt-mul_of_pos_right {k = 10 ^ (6 - size)} v (one-le-pow (6 - size) 10 (omega arith)) in
    let t = sym (mul_comm (10 ^ (6 - size)) (10 ^ size)) ∙ six-power size (omega (arith, is)) in
    (omega (arith, v, p), omega (arith, m, t))

-- they are the microseconds, rounded down
fraction_floor : (ds : List ℕ) (size : ℕ) → AreDigits ds → size ≡ min (length ds) 6
    → digits_value 10 (take size ds) * 10 ^ (6 - size) ≡ digits_value 10 ds * 1000000 / 10 ^ length ds
fraction_floor ds size all is = ⊎_elim few many (cases_lt (length ds) 6)
  where
    few : length ds < 6 → digits_value 10 (take size ds) * 10 ^ (6 - size) ≡ digits_value 10 ds * 1000000 / 10 ^ length ds
    few less =
        let same : size ≡ length ds = omega (arith, is) in
        let whole : take size ds ≡ ds = take_all size ds (omega (arith, same)) in
        let v = digits_value 10 ds in
        let e : v * 1000000 ≡ v * 10 ^ (6 - size) * 10 ^ size =
        ap (λ n. v * n) (sym (six-power size (omega (arith, is)))) ∙ sym (mul_assoc v (10 ^ (6 - size)) (10 ^ size)) in
        ap (λ xs. digits_value 10 xs * 10 ^ (6 - size)) whole
        ∙ (sym (mul-div_cancel (v * 10 ^ (6 - size)) {n = 10 ^ size} (one-le-pow size 10 (omega arith)))
        ∙ (ap (λ n. n / 10 ^ size) (sym e) ∙ ap (λ n. v * 1000000 / 10 ^ n) same))

    many : 6 ≤ length ds → digits_value 10 (take size ds) * 10 ^ (6 - size) ≡ digits_value 10 ds * 1000000 / 10 ^ length ds
    many more =
        let a = digits_value 10 (take 6 ds) in
        let b = digits_value 10 (drop 6 ds) in
        let left = length (drop 6 ds) in
        let v : digits_value 10 ds ≡ a * 10 ^ left + b =
        ap (digits_value 10) (sym (take-append-drop 6 ds)) ∙ (value-append 0 (take 6 ds) (drop 6 ds) ∙ value-after a (drop 6 ds)) in
        let power : 10 ^ left * 1000000 ≡ 10 ^ length ds = sym (pow-add 10 left 6) ∙ ap (λ n. 10 ^ n) (omega (arith, length-drop 6 ds)) in
        let small = mul-lt-mul_of_pos_right {k = 1000000}
        (digits_value_short numerals (drop 6 ds) left (All-drop (λ c. is_ascii_digit c ≡ true) 6 ds all) (omega arith)) (omega arith) in
        let e : digits_value 10 ds * 1000000 ≡ a * 10 ^ length ds + b * 1000000 =
        ap (λ n. n * 1000000) v ∙ (add-mul (a * 10 ^ left) b 1000000
        ∙ ap (λ n. n + b * 1000000) (mul_assoc a (10 ^ left) 1000000 ∙ ap (λ n. a * n) power)) in
        let six : size ≡ 6 = omega (arith, is) in
        let one : a * 10 ^ (6 - 6) ≡ a = omega arith in
        ap (λ n. digits_value 10 (take n ds) * 10 ^ (6 - n)) six
        ∙ (one ∙ sym (ap (λ n. n / 10 ^ length ds) e ∙ div-mul-add a (10 ^ length ds) (b * 1000000) (omega (arith, small, power))))

-- by a value and a power that a program has computed
pub fraction_is : (ds : List ℕ) (size v p : ℕ) → AreDigits ds → size ≡ min (length ds) 6 → v ≡ digits_value 10 (take size ds) → p ≡ 10 ^ (6 - size)
    → (v * p < 1000000) × (v * p ≡ digits_value 10 ds * 1000000 / 10 ^ length ds)
fraction_is ds size v p all is is_v is_p =
    let product : v * p ≡ digits_value 10 (take size ds) * 10 ^ (6 - size) = λ i. is_v i * is_p i in
    (omega (arith, product, (fraction_bound ds size all is).1), product ∙ fraction_floor ds size all is)
