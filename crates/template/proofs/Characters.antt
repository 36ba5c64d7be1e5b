-- The characters of a text.
use Rattle.std.proofs.Common.{◌≡◌, ◌∙◌, ◌≤◌, ◌<◌, ◌+◌, ◌/◌, ◌%◌, refl, sym, ap, arith, ℕ, zero, suc, Bool, true, false, List, [], ◌∷◌, ◌++◌, append_assoc, cond, nat_lt}
use Rattle.std.proofs.lemmas.Bool.{and_parts}
use Rattle.std.proofs.lemmas.Bool.Decides.{nat_tests}
use Rattle.std.specs.Char.{encode_utf8}
use Rattle.std.specs.List.{list_all}
use Rattle.std.specs.Str.{chars, chars_after, continuation_len, encode_utf8_all, lead_bits}

-- after the last byte of a character comes the next character
pub whole : (c : ℕ) (bs : List ℕ) → chars_after zero c bs ≡ c ∷ chars bs
unfolding chars
whole c [] = refl
whole c (b ∷ bs) = refl

-- the first byte of a character says how many bytes follow
led : (a n v : ℕ) (bs : List ℕ) → n ≡ continuation_len a → v ≡ lead_bits a → chars (a ∷ bs) ≡ chars_after n v bs
unfolding chars
led a n v bs p q = λ i. chars_after (sym p i) (sym q i) bs

by-test : (P : List ℕ → Type 0) (m n : ℕ) (xs ys : List ℕ) → (m < n → P xs) → (n ≤ m → P ys) → P (cond (nat_lt m n) xs ys)
by-test P m n xs ys p q =
    elim (nat_lt m n) as (λ b. nat_lt m n ≡ b → P (cond b xs ys)) [
      | true ↦ λ e. p (grind (arith, nat_tests, e))
      | false ↦ λ e. q (grind (arith, nat_tests, e))
    ] refl

-- a fact of the bytes of a character, by how many they are
pub by-bytes : (P : List ℕ → Type 0) (c : ℕ) → (c < 128 → P (c ∷ []))
    → (c < 2048 → 128 ≤ c → P ((192 + c / 64) ∷ (128 + c % 64) ∷ []))
    → (c < 65536 → 2048 ≤ c → P ((224 + c / 4096) ∷ (128 + c / 64 % 64) ∷ (128 + c % 64) ∷ []))
    → (65536 ≤ c → P ((240 + c / 262144) ∷ (128 + c / 4096 % 64) ∷ (128 + c / 64 % 64) ∷ (128 + c % 64) ∷ []))
    → P (encode_utf8 c)
unfolding encode_utf8
by-bytes P c one two three four =
    by-test P c 128 _ _ one (λ a. by-test P c 2048 _ _ (λ b. two b a) (λ b. by-test P c 65536 _ _ (λ d. three d b) four))

pub first-char : (c : ℕ) (rest : List ℕ) → chars (encode_utf8 c ++ rest) ≡ c ∷ chars rest
first-char c rest =
    by-bytes (λ bs. chars (bs ++ rest) ≡ c ∷ chars rest) c
    (λ h. led c zero c rest (grind (arith, nat_tests)) (grind (arith, nat_tests)) ∙ whole c rest)
    (λ h l. led (192 + c / 64) (suc zero) (c / 64) _ (grind (arith, nat_tests)) (grind (arith, nat_tests))
    ∙ (whole _ rest ∙ ap (λ x. x ∷ chars rest) (omega arith)))
    (λ h l. led (224 + c / 4096) (suc (suc zero)) (c / 4096) _ (grind (arith, nat_tests)) (grind (arith, nat_tests))
    ∙ (whole _ rest ∙ ap (λ x. x ∷ chars rest) (omega arith)))
    (λ l. led (240 + c / 262144) (suc (suc (suc zero))) (c / 262144) _ (grind (arith, nat_tests)) (grind (arith, nat_tests))
    ∙ (whole _ rest ∙ ap (λ x. x ∷ chars rest) (omega arith)))

-- the characters of a text that is written from characters, and of another text after it
pub chars-before : (cs rest : List ℕ) → chars (encode_utf8_all cs ++ rest) ≡ cs ++ chars rest
chars-before [] rest = refl
chars-before (c ∷ cs) rest =
    ap chars (append_assoc (encode_utf8 c) (encode_utf8_all cs) rest)
    ∙ (first-char c (encode_utf8_all cs ++ rest) ∙ ap (λ l. c ∷ l) (chars-before cs rest))

pub chars-encode : (cs : List ℕ) → chars (encode_utf8_all cs) ≡ cs
unfolding chars
chars-encode [] = refl
chars-encode (c ∷ cs) = first-char c (encode_utf8_all cs) ∙ ap (λ l. c ∷ l) (chars-encode cs)

-- the characters of ASCII are its bytes
ascii-char : (b : ℕ) (bs : List ℕ) → b < 128 → chars (b ∷ bs) ≡ b ∷ chars bs
ascii-char b bs h = led b zero b bs (grind (arith, nat_tests)) (grind (arith, nat_tests)) ∙ whole b bs

module _ (keeps : ℕ → Bool) (low : (b : ℕ) → keeps b ≡ true → b < 128) where
  pub ascii-before : (bs rest : List ℕ) → list_all keeps bs ≡ true → chars (bs ++ rest) ≡ bs ++ chars rest
  ascii-before [] rest h = refl
  ascii-before (b ∷ bs) rest h =
      let both = and_parts (keeps b) (list_all keeps bs) h in
      ascii-char b (bs ++ rest) (low b both.0) ∙ ap (λ l. b ∷ l) (ascii-before bs rest both.1)

  pub ascii-chars : (bs : List ℕ) → list_all keeps bs ≡ true → chars bs ≡ bs
  unfolding chars
  ascii-chars [] h = refl
  ascii-chars (b ∷ bs) h =
      let both = and_parts (keeps b) (list_all keeps bs) h in
      ascii-char b bs (low b both.0) ∙ ap (λ l. b ∷ l) (ascii-chars bs both.1)
