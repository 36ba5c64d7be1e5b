-- The text that `{:08x}` writes for the 32 bits of a number.
use Rattle.std.proofs.Common.{◌≡◌, ℕ, zero, suc, add-one, ◌+◌, ◌-◌, ◌/◌, ◌%◌, ◌^◌, ◌<◌, ◌≤◌, false, List, [], ◌∷◌, ◌++◌, length, refl, sym, ap, ◌∙◌, inl, inr, arith, append_assoc, append-nil}
use Rattle.std.specs.Prelude.{replicate}
use Rattle.std.proofs.Math.Nat.{pow-suc, sub-zero}
use Rattle.std.proofs.lemmas.Bool.{cases_lt, ne_eqb}
use Rattle.std.proofs.lemmas.List.{replicate_more}
use Rattle.std.specs.Fmt.{digits, digits_onto, digit_glyph, padded_integral, char_count, format_spec}
use Rattle.std.proofs.Common.{ℤ}
use Rattle.std.specs.Int.{cast_unsigned, w32}
use Rattle.run_events_results.specs.Texts.{hexadecimal_digits, code_digits}

-- the digits of zero are zeros
hexadecimal_digits-zero : (k : ℕ) → hexadecimal_digits k 0 ≡ replicate k 48
hexadecimal_digits-zero zero = refl
hexadecimal_digits-zero (suc k) = rw (hexadecimal_digits-zero k) (replicate_more k 48 ∙ ap (λ n. replicate {A = ℕ} n 48) (add-one k))

-- the first digit is written before the digits that are already written
onto_first : (i n : ℕ) (acc : List ℕ) → n / 16 ≡ 0 → digits_onto (suc i) 16 false n acc ≡ digit_glyph false (n % 16) ∷ acc
onto_first i n acc e = rw e refl

-- the last digit is written, and then the digits before it
onto_more : (i n : ℕ) (acc : List ℕ) → 16 ≤ n → digits_onto (suc i) 16 false n acc ≡ digits_onto i 16 false (n / 16) (digit_glyph false (n % 16) ∷ acc)
onto_more i n acc h = rw (ne_eqb (n / 16) 0 (λ e. omega (arith, h, e))) refl

-- zeros before a single digit
padded_single : (k n : ℕ) (acc : List ℕ) → n / 16 ≡ 0
    → replicate (suc k + length acc - length (digit_glyph false (n % 16) ∷ acc)) 48 ++ digit_glyph false (n % 16) ∷ acc ≡ hexadecimal_digits (suc k) n ++ acc
padded_single k n acc e =
    let zeros : suc k + length acc - length (digit_glyph false (n % 16) ∷ acc) ≡ k = omega arith in
    rw (zeros, e, hexadecimal_digits-zero k) (sym (append_assoc (replicate k 48) (digit_glyph false (n % 16) ∷ []) acc))

-- the digits written by at most i steps, with zeros in front of them up to k digits
abbrev padded_digits : ℕ → ℕ → ℕ → List ℕ → List ℕ
padded_digits k i n acc = replicate (k + length acc - length (digits_onto i 16 false n acc)) 48 ++ digits_onto i 16 false n acc

-- the same if one step writes all digits
padded_first : (k i n : ℕ) (acc : List ℕ) → n / 16 ≡ 0 → padded_digits (suc k) (suc i) n acc ≡ hexadecimal_digits (suc k) n ++ acc
padded_first k i n acc e = let written : digits_onto (suc i) 16 false n acc ≡ digit_glyph false (n % 16) ∷ acc = onto_first i n acc e in
    ap (λ ds. replicate (suc k + length acc - length ds) 48 ++ ds) written ∙ padded_single k n acc e

-- the digits padded to k + 1 are the last k + 1 digits of the number, if it has no more digits
padded_onto : (k i n : ℕ) (acc : List ℕ) → n < 16 ^ suc k → k ≤ i → padded_digits (suc k) (suc i) n acc ≡ hexadecimal_digits (suc k) n ++ acc
padded_onto zero i n acc small room = padded_first zero i n acc (omega (arith, pow-suc 16 0))
padded_onto (suc k) zero n acc small room = absurd (omega arith)
padded_onto (suc k) (suc i) n acc small room =
    elim (cases_lt n 16) [
      | inl one ↦ padded_first (suc k) (suc i) n acc (omega arith)
      | inr more ↦
          let last : List ℕ = digit_glyph false (n % 16) ∷ acc in
          let written : digits_onto (suc (suc i)) 16 false n acc ≡ digits_onto (suc i) 16 false (n / 16) last = onto_more (suc i) n acc more in
          let same_length : suc (suc k) + length acc ≡ suc k + length last = omega arith in
          ap (λ ds. replicate (suc (suc k) + length acc - length ds) 48 ++ ds) written
          ∙ ap (λ m. replicate (m - length (digits_onto (suc i) 16 false (n / 16) last)) 48 ++ digits_onto (suc i) 16 false (n / 16) last) same_length
          ∙ padded_onto k i (n / 16) last (omega (arith, pow-suc 16 (suc k))) (omega arith)
          ∙ sym (append_assoc (hexadecimal_digits (suc k) (n / 16)) (digit_glyph false (n % 16) ∷ []) acc)
    ]

-- the zeros that a width of eight adds
padded_is : (ds : List ℕ) → padded_integral (format_spec 32 0 4 8 (2 ^ 64 - 1)) false [] ds ≡ replicate (8 - length ds) 48 ++ ds
unfolding padded_integral char_count
padded_is ds = simp (append-nil, sub-zero)

-- the digits of a number are those that 64 steps write
digits_is : (n : ℕ) → digits 16 false n ≡ digits_onto 64 16 false n []
unfolding digits
digits_is n = refl

-- the text that `{:08x}` writes
padded_to_eight : (n : ℕ) → n < 2 ^ 32 → padded_integral (format_spec 32 0 4 8 (2 ^ 64 - 1)) false [] (digits 16 false n) ≡ hexadecimal_digits 8 n
padded_to_eight n small = padded_is (digits 16 false n) ∙ ap (λ ds. replicate (8 - length ds) 48 ++ ds) (digits_is n)
    ∙ padded_onto 7 63 n [] (omega arith) (omega arith) ∙ append-nil (hexadecimal_digits 8 n)

-- the same for the bits of a code
pub code_text : (z : ℤ) (n : ℕ) → n ≡ cast_unsigned w32 z → n < 2 ^ 32
    → padded_integral (format_spec 32 0 4 8 (2 ^ 64 - 1)) false [] (digits 16 false n) ≡ code_digits z
unfolding code_digits
code_text z n e small = padded_to_eight n small ∙ ap (hexadecimal_digits 8) e
