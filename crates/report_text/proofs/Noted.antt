-- Texts to which more is appended.
use Rattle.std.proofs.Common.{◌≡◌, ◌∙◌, ◌+◌, ◌==◌, refl, sym, ap, arith, ℕ, Bool, true, false, true≢false, List, [], ◌∷◌, ◌++◌, append-nil, append_assoc, get_or, length}
use Rattle.std.proofs.lemmas.Bool.Decides.{nat_tests}
use Rattle.std.proofs.lemmas.Str.{chars-append, chars-nil, encodes-chars}
use Rattle.std.specs.Char.{encode_utf8}
use Rattle.std.specs.Str.{IsUtf8, chars, encode_utf8_all}
use Rattle.report_text.specs.Line.{ends_line, escape, starts_line}
use Rattle.report_text.specs.Shown.{Adds, Noted}
use Rattle.report_text.proofs.Characters.{by-bytes, first-char}
use Rattle.report_text.proofs.Steps.{calm-escape, chars-calm}

abbrev noted : List ℕ → Bool → Noted
noted text failed = record { text = text; failed = failed }

pub noted-is : {t u : List ℕ} {b d : Bool} → t ≡ u → b ≡ d → noted t b ≡ noted u d
noted-is p q = λ i. noted (p i) (q i)

pub emptied : {bytes : List ℕ} → bytes ≡ [] → chars bytes ≡ []
emptied e = ap chars e ∙ chars-nil

pub chars-word : {bytes new : List ℕ} (w : List ℕ) → IsUtf8 bytes → new ≡ bytes ++ w → chars new ≡ chars bytes ++ chars w
chars-word {bytes} {new} w utf8 e = ap chars e ∙ chars-append bytes w utf8

pub chars-char : {bytes new : List ℕ} (c : ℕ) → IsUtf8 bytes → new ≡ bytes ++ encode_utf8 c → chars new ≡ chars bytes ++ c ∷ []
chars-char {bytes} {new} c utf8 e =
    ap chars e ∙ (chars-append bytes (encode_utf8 c) utf8
    ∙ ap (λ l. chars bytes ++ l) (ap chars (sym (append-nil (encode_utf8 c))) ∙ (first-char c [] ∙ ap (λ l. c ∷ l) chars-nil)))

pub chars-escape : {bytes new : List ℕ} (c : ℕ) → IsUtf8 bytes → new ≡ bytes ++ escape c → chars new ≡ chars bytes ++ escape c
chars-escape {bytes} {new} c utf8 e =
    ap chars e ∙ (chars-append bytes (escape c) utf8 ∙ ap (λ l. chars bytes ++ l) (chars-calm (escape c) (calm-escape c)))

pub adds-both : (a : Noted) {b c : Noted} (xs ys : List ℕ) → Adds a b xs → Adds b c ys → Adds a c (xs ++ ys)
adds-both a {b} {c} xs ys p q = λ e.
    let second = q e in
    let first = p second.0 in
    (first.0, second.1 ∙ (ap (λ t. t ++ ys) first.1 ∙ append_assoc a.text xs ys))

pub adds-nothing : (a : Noted) → Adds a a []
adds-nothing a = λ e. (e, sym (append-nil a.text))

pub adds-as : (a : Noted) {b : Noted} {xs ys : List ℕ} → xs ≡ ys → Adds a b xs → Adds a b ys
adds-as a {b} {xs} {ys} is p = λ e. let first = p e in (first.0, first.1 ∙ ap (λ l. a.text ++ l) is)

-- texts that are empty
some-length : (x : ℕ) (xs : List ℕ) → (length (x ∷ xs) == 0) ≡ false
some-length x xs = grind (arith, nat_tests)

pub empty-is : (bytes : List ℕ) → IsUtf8 bytes → (length bytes == 0) ≡ (length (chars bytes) == 0)
empty-is [] h = ap (λ (cs : List ℕ). length cs == 0) (sym chars-nil)
empty-is (b ∷ bytes) h =
    elim (chars (b ∷ bytes)) as (λ cs. chars (b ∷ bytes) ≡ cs → (length (b ∷ bytes) == 0) ≡ (length cs == 0)) [
      | [] ↦ λ e. absurd (omega (arith, ap length (sym (encodes-chars (b ∷ bytes) h) ∙ ap encode_utf8_all e)))
      | ◌∷◌ c cs ↦ λ e. some-length b bytes ∙ sym (some-length c cs)
    ] refl

-- texts that end in a line feed
feed-after : (d : Bool) (c : ℕ) (rest : List ℕ) → ends_line d (encode_utf8 c ++ rest) ≡ ends_line (c == 10) rest
feed-after d c rest =
    by-bytes (λ bs. ends_line d (bs ++ rest) ≡ ends_line (c == 10) rest) c
    (λ h. refl)
    (λ h l. ap (λ b. ends_line b rest) (grind (arith, nat_tests)))
    (λ h l. ap (λ b. ends_line b rest) (grind (arith, nat_tests)))
    (λ l. ap (λ b. ends_line b rest) (grind (arith, nat_tests)))

feed-all : (d : Bool) (cs : List ℕ) → ends_line d (encode_utf8_all cs) ≡ ends_line d cs
feed-all d [] = refl
feed-all d (c ∷ cs) = feed-after d c (encode_utf8_all cs) ∙ feed-all (c == 10) cs

last-byte : (b : ℕ) (bs : List ℕ) (d : Bool) → ends_line d (b ∷ bs) ≡ (get_or (b ∷ bs) (length bs) 0 == 10)
last-byte b [] d = refl
last-byte b (x ∷ xs) d = last-byte x xs (b == 10)

pub feed-is : (bytes : List ℕ) (n : ℕ) → IsUtf8 bytes → length bytes ≡ n + 1 → (get_or bytes n 0 == 10) ≡ starts_line (chars bytes)
feed-is [] n utf8 e = absurd (omega (arith, e))
feed-is (b ∷ bs) n utf8 e =
    let size : n ≡ length bs = omega (arith, e) in
    ap (λ k. get_or (b ∷ bs) k 0 == 10) size
    ∙ (sym (last-byte b bs true) ∙ (ap (ends_line true) (sym (encodes-chars (b ∷ bs) utf8)) ∙ feed-all true (chars (b ∷ bs))))

pub empty-starts : (bytes : List ℕ) → (length bytes == 0) ≡ true → starts_line (chars bytes) ≡ true
empty-starts [] e = ap starts_line chars-nil
empty-starts (b ∷ bs) e = absurd (true≢false (sym e ∙ some-length b bs))
