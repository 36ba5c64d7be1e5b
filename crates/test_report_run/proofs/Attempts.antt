-- The number of attempts in a written name.
use Rattle.std.proofs.Common.{◌≡◌, ◌≢◌, ◌∙◌, ℕ, zero, suc, ◌+◌, ◌-◌, ◌<◌, ◌≤◌, Bool, true, false, List, ◌∷◌, ◌++◌, length, length-append, get_or, take, drop, take-append-drop, Some, None, Result, Ok, Err, option_map, refl, ap, sym, subst, arith}
use Rattle.std.proofs.Math.Logic.{⊎_elim}
use Rattle.std.proofs.lemmas.Bool.{cases_Bool, cases_lt}
use Rattle.std.proofs.lemmas.Bool.Decides.{Decides-eqb}
use Rattle.std.proofs.lemmas.Fmt.{decimal-digits_value, decimal_injective, digits_decimal, first_decimal, parse-decimal}
use Rattle.std.proofs.lemmas.List.{take_at}
use Rattle.std.proofs.lemmas.Option.{none-some, same_Some}
use Rattle.std.proofs.lemmas.Slice.Eq.{ends_is}
use Rattle.std.proofs.lemmas.Str.Parse.{IsNumeralModel, not_in_digits, numerals_by_value, parse_plain, tells_digits}
use Rattle.std.proofs.lemmas.Str.Pattern.{NoCharPasses-char, drop_at_char}
use Rattle.std.specs.Fmt.{decimal}
use Rattle.std.specs.List.{find, range_with_len}
use Rattle.std.specs.Result.{result_ok}
use Rattle.std.specs.Str.Parse.{AllDigits, ParsesUnsigned, digits_value}
use Rattle.std.specs.Str.Pattern.{RFindsChar, SplitsAroundMatch}
use Rattle.test_report_events.proofs.LastCut.{Lacks, cut-same, lacks-later}
use Rattle.test_report_run.specs.Running.{CountsAttempts, attempts_of, ends_in_number, split_at, split_of}

-- the first number of a range that passes a test
find-none : (p : ℕ → Bool) (a k : ℕ) → ((m : ℕ) → a ≤ m → m < a + k → p m ≡ false) → find p (range_with_len a k) ≡ None
find-none p a zero none = refl
find-none p a (suc k) none =
    rw (none a (omega arith) (omega arith)) (find-none p (a + 1) k (λ m low high. none m (omega arith) (omega arith)))

find-first : (p : ℕ → Bool) (a k n : ℕ) → a ≤ n → n < a + k → p n ≡ true → ((m : ℕ) → a ≤ m → m < n → p m ≡ false)
    → find p (range_with_len a k) ≡ Some n
find-first p a zero n low high is before = absurd (omega arith)
find-first p a (suc k) n low high is before = ⊎_elim
    (λ less. rw (before a (omega arith) less)
    (find-first p (a + 1) k n (omega arith) (omega arith) is (λ m l h. before m (omega arith) h)))
    (λ past. let same : n ≡ a = omega arith in rw (subst (λ m. p m ≡ true) same is) (ap Some (sym same)))
    (cases_lt a n)

-- the number with which a name ends
attempts-none : (written : List ℕ) → ((n : ℕ) → 2 ≤ n → n ≤ 1000 → ends_in_number written n ≡ false) → attempts_of written ≡ None
unfolding attempts_of
attempts-none written none = find-none (ends_in_number written) 2 999 (λ m low high. none m low (omega arith))

attempts-some : (written : List ℕ) (n : ℕ) → 2 ≤ n → n ≤ 1000 → ends_in_number written n ≡ true
    → ((m : ℕ) → 2 ≤ m → m < n → ends_in_number written m ≡ false) → attempts_of written ≡ Some n
unfolding attempts_of
attempts-some written n low high is before = find-first (ends_in_number written) 2 999 n low (omega arith) is before

-- digits have no `#`
own : IsNumeralModel (AllDigits 10) (digits_value 10)
own = numerals_by_value (AllDigits 10) tells_digits

decimal-lacks : (n : ℕ) → n ≤ 1000 → Lacks 35 (decimal n)
decimal-lacks n few = not_in_digits own (decimal n) 35 (digits_decimal own n (omega arith)) (λ in_range. omega arith)

-- what stands after the last `#`
cut-last : (written front back : List ℕ) → SplitsAroundMatch (RFindsChar 35) written front back
    → (written ≡ front ++ 35 ∷ back) × Lacks 35 back
cut-last written front back h =
    let rest = drop_at_char 35 written h.0 h.1 h.2.1 (omega arith) in
    let whole = sym (take-append-drop h.0 written) ∙ ap (λ r. take h.0 written ++ r) rest in
    (rw (h.3, h.4) whole, rw h.4 (λ i inside. NoCharPasses-char 35 (drop h.1 written) i h.2.0 (omega arith) inside))

-- a test that does not hold
false-from : (b : Bool) → (b ≡ true → ⊥) → b ≡ false
false-from b other = ⊎_elim (λ is. absurd (other is)) (λ is. is) (cases_Bool b)

-- that number stands after the last `#`
number-behind : (written front back : List ℕ) (n : ℕ) → SplitsAroundMatch (RFindsChar 35) written front back → n ≤ 1000
    → ends_in_number written n ≡ true → back ≡ decimal n
number-behind written front back n h few is =
    let cut = cut-last written front back h in
    let ends = (ends_is Decides-eqb written (35 ∷ decimal n) _ refl).0 is in
    (cut-same 35 front _ back (decimal n) (sym cut.0 ∙ ends) cut.1 (decimal-lacks n few)).1

-- a name without `#`
pub split-none : (written : List ℕ) → RFindsChar 35 written None → split_of written ≡ None
split-none written none =
    ap (option_map (split_at written)) (attempts-none written (λ n low few. false-from _ (λ is.
    let ends = (ends_is Decides-eqb written (35 ∷ decimal n) _ refl).0 is in
    lacks-later 35 _ (decimal n) (subst (Lacks 35) ends (λ i inside. NoCharPasses-char 35 written i none (omega arith) inside)))))

-- a name with no number after its last `#`
pub split-other : (written front back : List ℕ) → SplitsAroundMatch (RFindsChar 35) written front back
    → ((n : ℕ) → ¬ CountsAttempts back n) → split_of written ≡ None
split-other written front back h other =
    ap (option_map (split_at written)) (attempts-none written (λ n low few. false-from _ (λ is.
    other n (low, few, number-behind written front back n h few is))))

-- a name with a number after its last `#`
pub split-some : (written front back : List ℕ) (n : ℕ) → SplitsAroundMatch (RFindsChar 35) written front back
    → CountsAttempts back n → split_of written ≡ Some (front, n)
split-some written front back n h counts =
    let cut : written ≡ front ++ 35 ∷ decimal n = (cut-last written front back h).0 ∙ ap (λ b. front ++ 35 ∷ b) counts.2 in
    let found = attempts-some written n counts.0 counts.1 ((ends_is Decides-eqb written (35 ∷ decimal n) _ refl).1 front cut)
    (λ m low less. false-from _ (λ is.
    let same = decimal_injective m n (omega arith) (omega arith) (sym (number-behind written front back m h (omega arith) is) ∙ counts.2) in
    omega arith)) in
    let before : take (length written - (length (decimal n) + 1)) written ≡ front =
    ap (λ t. take (length written - (length (decimal n) + 1)) t) cut
    ∙ take_at front (35 ∷ decimal n) _ (omega (arith, ap length cut, length-append front (35 ∷ decimal n))) in
    ap (option_map (split_at written)) found ∙ ap (λ f. Some (f, n)) before

-- a text that begins with a sign or a zero is not such a number
pub not-counted : (text : List ℕ) → get_or text 0 0 ≤ 48 → (n : ℕ) → ¬ CountsAttempts text n
not-counted text low n counts =
    omega (arith, first_decimal n (omega (arith, counts.0)) (omega (arith, counts.1)), ap (λ t. get_or t 0 0) counts.2)

-- nor is what is no number, or another one
pub parsed-only : {E : Type 0} (text : List ℕ) (r : Result ℕ E) (n : ℕ) → ParsesUnsigned 64 10 text r → CountsAttempts text n
    → result_ok r ≡ Some n
parsed-only text r n parses counts =
    ap result_ok (parse-decimal 64 n text r (omega (arith, counts.1)) (omega (arith, counts.1)) counts.2 parses)

-- what is read is written without a sign and a leading zero
pub parsed-decimal : {E : Type 0} (text : List ℕ) (r : Result ℕ E) (n : ℕ) → ParsesUnsigned 64 10 text r → result_ok r ≡ Some n
    → get_or text 0 0 ≢ 43 → get_or text 0 0 ≢ 48 → text ≡ decimal n
parsed-decimal {E} text (Ok m) n parses is sign nought =
    let read = parse_plain own {E = E} 64 text (Ok m) parses sign in
    sym (decimal-digits_value own text read.0.0 read.0.1 (λ e. absurd (nought e)) read.0.2)
    ∙ ap decimal (sym read.1 ∙ same_Some m n is)
parsed-decimal text (Err e) n parses is sign nought = absurd (none-some n is)
