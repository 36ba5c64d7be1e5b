-- Texts in which no character passes a test.
use Rattle.std.proofs.Common.{◌≡◌, ◌≤◌, ◌<◌, ◌==◌, ◌&&◌, ◌+◌, ◌/◌, ◌%◌, refl, subst, arith, ℕ, zero, suc, Bool, true, false, true≢false, not, List, [], ◌∷◌, ◌++◌, append-nil, codes, if◌then◌else◌, nat_lt, sym}
use Rattle.std.proofs.lemmas.Bool.{and_parts}
use Rattle.std.proofs.lemmas.Bool.Decides.{nat_tests}
use Rattle.std.proofs.lemmas.Str.{NoCharPasses-append, NoCharPasses-nil, encode_ascii}
use Rattle.std.specs.Char.{encode_utf8}
use Rattle.std.specs.Fmt.{decimal, digit_glyph, digits, digits_onto}
use Rattle.std.specs.List.{flat_map}
use Rattle.std.specs.Str.{NoCharPasses}
use Rattle.template.specs.Shown.{escape}

-- no character of the text passes the test
pub record Lacks (p : ℕ → Bool) (text : List ℕ) : Type 0 where
  pub is : NoCharPasses p text

pub none : (p : ℕ → Bool) → Lacks p []
none p = record { is = NoCharPasses-nil p }

pub both : {p : ℕ → Bool} {xs ys : List ℕ} → Lacks p xs → Lacks p ys → Lacks p (xs ++ ys)
both {p} {xs} {ys} a b = record { is = NoCharPasses-append p xs ys a.is b.is }

pub one-char : (p : ℕ → Bool) (c : ℕ) → p c ≡ false → Lacks p (encode_utf8 c)
one-char p c e = record { is = (c ∷ [], append-nil (encode_utf8 c), (e, tt)) }

pub lacks-flat_map : {X : Type 0} (p : ℕ → Bool) (f : X → List ℕ) → ((x : X) → Lacks p (f x)) → (xs : List X) → Lacks p (flat_map f xs)
lacks-flat_map p f h [] = none p
lacks-flat_map p f h (x ∷ xs) = both (h x) (lacks-flat_map p f h xs)

-- bytes of ASCII
abbrev pub visible : (ℕ → Bool) → ℕ → Bool
visible p b = nat_lt b 128 && not (p b)

pub not-false : (b : Bool) → not b ≡ true → b ≡ false
not-false true e = absurd (true≢false (sym e))
not-false false e = refl

pub lacks-byte : (p : ℕ → Bool) (b : ℕ) → visible p b ≡ true → Lacks p (b ∷ [])
lacks-byte p b e =
    let parts = and_parts (nat_lt b 128) (not (p b)) e in
    let test = parts.0 in
    let small : b < 128 = grind (arith, nat_tests, test) in
    subst (Lacks p) (encode_ascii b small) (one-char p b (not-false (p b) parts.1))

pub lacks-more : (p : ℕ → Bool) (b : ℕ) (bs : List ℕ) → visible p b ≡ true → Lacks p bs → Lacks p (b ∷ bs)
lacks-more p b bs e h = both {xs = b ∷ []} (lacks-byte p b e) h

-- numbers, if printable characters of ASCII fail the test
module _ (p : ℕ → Bool) (printable : (b : ℕ) → 32 ≤ b → b < 127 → visible p b ≡ true) where
  glyph : (d : ℕ) → d < 17 → visible p (digit_glyph false d) ≡ true
  glyph d h =
      elim (nat_lt d 10) as (λ b. nat_lt d 10 ≡ b → visible p (if b then 48 + d else 87 + d) ≡ true) [
        | true ↦ λ e. printable (48 + d) (omega arith) (omega arith)
        | false ↦ λ e. printable (87 + d) (omega arith) (omega arith)
      ] refl

  lacks-digits : (k base n : ℕ) (acc : List ℕ) → 0 < base → base < 17 → Lacks p acc → Lacks p (digits_onto k base false n acc)
  lacks-digits zero base n acc low high h = h
  lacks-digits (suc k) base n acc low high h =
      let longer = digit_glyph false (n % base) ∷ acc in
      let more = lacks-more p (digit_glyph false (n % base)) acc (glyph (n % base) (omega arith)) h in
      elim (n / base == 0) as (λ b. Lacks p (if b then longer else digits_onto k base false (n / base) longer))
      [ true ↦ more | false ↦ lacks-digits k base (n / base) longer low high more ]

  pub lacks-decimal : (n : ℕ) → Lacks p (decimal n)
  unfolding digits
  lacks-decimal n = lacks-digits 64 10 n [] (omega arith) (omega arith) (none p)

  pub lacks-escape : (c : ℕ) → Lacks p (escape c)
  unfolding escape digits
  lacks-escape c =
      let front = lacks-more p 92 (117 ∷ 123 ∷ []) (printable 92 (omega arith) (omega arith))
      (lacks-more p 117 (123 ∷ []) (printable 117 (omega arith) (omega arith)) (lacks-more p 123 [] (printable 123 (omega arith) (omega arith)) (none p))) in
      both {xs = codes "\\u{"} front
      (both (lacks-digits 64 16 c [] (omega arith) (omega arith) (none p)) (lacks-more p 125 [] (printable 125 (omega arith) (omega arith)) (none p)))
