-- Values that are written character by character, as values that are written byte by byte.
use Rattle.std.proofs.Common.{◌≡◌, ◌∙◌, ◌≤◌, ◌==◌, ◌||◌, ◌&&◌, not, refl, sym, ap, arith, ℕ, Bool, true, false, List, [], ◌∷◌, ◌++◌, append-nil, append_assoc, if◌then◌else◌, length}
use Rattle.std.proofs.Math.Logic.{⊎_elim}
use Rattle.std.proofs.lemmas.Bool.{cases_lt}
use Rattle.std.proofs.lemmas.Bool.Decides.{nat_tests}
use Rattle.std.proofs.lemmas.Grind.{flat_map-append}
use Rattle.std.proofs.lemmas.Str.{encode_ascii}
use Rattle.std.specs.Char.{encode_utf8, is_ascii_punctuation}
use Rattle.std.specs.List.{flat_map}
use Rattle.std.specs.Str.{chars}
use Rattle.template.proofs.Characters.{by-bytes, first-char}
use Rattle.template.proofs.Escapes.{chars-escape, escape-before, markup-escape, plain-escape}
use Rattle.template.specs.Hole.{is_before_point, is_harmless, is_syntax, is_word, markup, markup_byte, markup_or, plain_char, plain_chars, plain_escape, reference}
use Rattle.template.specs.Shown.{allowed, escape, is_escaped, shown, shown_char}

-- the bytes of a character past ASCII
abbrev pub Highs : List ℕ → Type 0
Highs [] = Unit {0}
Highs (b ∷ bs) = (128 ≤ b) × Highs bs

pub past-ascii : (c : ℕ) → 128 ≤ c → Highs (encode_utf8 c)
past-ascii c h =
    by-bytes Highs c (λ l. absurd (omega arith)) (λ _ _. (omega arith, (omega arith, tt))) (λ _ _. (omega arith, (omega arith, (omega arith, tt))))
    (λ _. (omega arith, (omega arith, (omega arith, (omega arith, tt)))))

pub high-kept : (f : ℕ → List ℕ) → ((b : ℕ) → 128 ≤ b → f b ≡ b ∷ []) → (bs : List ℕ) → Highs bs → flat_map f bs ≡ bs
high-kept f high [] h = refl
high-kept f high (b ∷ bs) h = ap (λ l. l ++ flat_map f bs) (high b h.0) ∙ ap (λ l. b ∷ l) (high-kept f high bs h.1)

-- one character between tags or in the value of an attribute
high-or : (v : Bool) (other : List ℕ) (b : ℕ) → 128 ≤ b → markup_or v other b ≡ other
high-or true other b h = grind (arith, nat_tests)
high-or false other b h = grind (arith, nat_tests)

one-character : (v : Bool) (c : ℕ) → markup_or v (encode_utf8 c) c ≡ markup v (encode_utf8 c)
unfolding markup
one-character v c = ⊎_elim
    (λ lt. ap (λ x. markup_or v x c) (encode_ascii c lt)
    ∙ (sym (append-nil (markup_byte v c)) ∙ ap (flat_map (markup_byte v)) (sym (encode_ascii c lt))))
    (λ ge. high-or v (encode_utf8 c) c ge ∙ sym (high-kept (markup_byte v) (λ b h. high-or v (b ∷ []) b h) (encode_utf8 c) (past-ascii c ge)))
    (cases_lt c 128)

-- a character that is shown as an escape, and one that is not
shown-escape : (c : ℕ) → is_escaped c ≡ true → shown_char c ≡ escape c
shown-escape c h = rw h refl

shown-other : (c : ℕ) → is_escaped c ≡ false → shown_char c ≡ encode_utf8 (allowed c)
shown-other c h = rw h refl

pub markup_escape : (v : Bool) (c : ℕ) → is_escaped c ≡ true → markup v (shown_char c) ≡ escape c
markup_escape v c h = ap (markup v) (shown-escape c h) ∙ markup-escape v c

pub markup_other : (v : Bool) (c d : ℕ) → is_escaped c ≡ false → d ≡ allowed c → markup v (shown_char c) ≡ markup_or v (encode_utf8 d) d
markup_other v c d h e =
    ap (markup v) (shown-other c h) ∙ (sym (one-character v (allowed c)) ∙ ap (λ x. markup_or v (encode_utf8 x) x) (sym e))

-- one more character of a value
shown-more : (c : ℕ) (rest : List ℕ) → shown (encode_utf8 c ++ rest) ≡ shown_char c ++ shown rest
unfolding shown
shown-more c rest = ap (flat_map shown_char) (first-char c rest)

pub markup-more : (v : Bool) (c : ℕ) (text new rest whole : List ℕ) → new ≡ text ++ markup v (shown_char c) → whole ≡ encode_utf8 c ++ rest
    → new ++ markup v (shown rest) ≡ text ++ markup v (shown whole)
unfolding markup
markup-more v c text new rest whole is cut =
    let f = markup_byte v in
    let all : flat_map f (shown whole) ≡ flat_map f (shown_char c) ++ flat_map f (shown rest) =
    ap (λ t. flat_map f (shown t)) cut ∙ (ap (flat_map f) (shown-more c rest) ∙ flat_map-append f (shown_char c) (shown rest)) in
    rw is (append_assoc text (flat_map f (shown_char c)) (flat_map f (shown rest)) ∙ ap (λ l. text ++ l) (sym all))

pub markup-end : (v : Bool) (text rest whole : List ℕ) → length rest ≡ 0 → text ++ markup v (shown rest) ≡ whole → text ≡ whole
unfolding markup shown chars
markup-end v text [] whole none is = sym (append-nil _) ∙ is
markup-end v text (b ∷ rest) whole none is = absurd (omega arith)

-- the same in Markdown
pub plain_shown_escape : (s c : ℕ) → is_escaped c ≡ true → plain_chars s (chars (shown_char c)) ≡ plain_escape c
plain_shown_escape s c h =
    ap (λ t. plain_chars s (chars t)) (shown-escape c h)
    ∙ (ap (plain_chars s) (chars-escape c ∙ sym (append-nil (escape c))) ∙ (plain-escape s c [] ∙ append-nil (plain_escape c)))

chars-one : (c : ℕ) → chars (encode_utf8 c) ≡ c ∷ []
unfolding chars
chars-one c = ap chars (sym (append-nil (encode_utf8 c))) ∙ first-char c []

pub plain_shown_other : (s c d : ℕ) → is_escaped c ≡ false → d ≡ allowed c → plain_chars s (chars (shown_char c)) ≡ plain_char s d
plain_shown_other s c d h e =
    ap (λ t. plain_chars s (chars t)) (shown-other c h)
    ∙ (ap (plain_chars s) (chars-one (allowed c)) ∙ (append-nil (plain_char s (allowed c)) ∙ ap (plain_char s) (sym e)))

-- after a character that is neither a letter, a digit nor a space it does not matter which it is
record Plain (c : ℕ) : Type 0 where
  pub no_word : is_word c ≡ false
  pub no_point : is_before_point c ≡ false
  pub no_space : (c == 32) ≡ false

after-plain : (c d : ℕ) (cs : List ℕ) → Plain c → Plain d → plain_chars c cs ≡ plain_chars d cs
after-plain c d [] p q = refl
after-plain c d (b ∷ cs) p q =
    let word : is_word c ≡ is_word d = p.no_word ∙ sym q.no_word in
    let point : is_before_point c ≡ is_before_point d = p.no_point ∙ sym q.no_point in
    let space : (c == 32) ≡ (d == 32) = p.no_space ∙ sym q.no_space in
    let syntax : is_syntax c b ≡ is_syntax d b =
    ap (λ w. is_ascii_punctuation b && not (is_harmless b || (((b == 47 || b == 95) && w) || (b == 46 && is_before_point c)))
    || (b == 9 || (b == 10 || (b == 32 && c == 32)))) word
    ∙ (ap (λ w. is_ascii_punctuation b && not (is_harmless b || (((b == 47 || b == 95) && is_word d) || (b == 46 && w)))
    || (b == 9 || (b == 10 || (b == 32 && c == 32)))) point
    ∙ ap (λ w. is_ascii_punctuation b && not (is_harmless b || (((b == 47 || b == 95) && is_word d) || (b == 46 && is_before_point d)))
    || (b == 9 || (b == 10 || (b == 32 && w)))) space) in
    ap (λ t. (if t then reference b else encode_utf8 b) ++ plain_chars b cs) syntax

plain-escaped : (c : ℕ) → is_escaped c ≡ true → Plain c
plain-escaped c h = record {
  no_word = grind (arith, nat_tests, h);
  no_point = grind (arith, nat_tests, h);
  no_space = grind (arith, nat_tests, h);
}

plain-refused : (c : ℕ) → (c == 65534 || c == 65535) ≡ true → Plain c
plain-refused c h = record {
  no_word = grind (arith, nat_tests, h);
  no_point = grind (arith, nat_tests, h);
  no_space = grind (arith, nat_tests, h);
}

after-allowed : (c : ℕ) (cs : List ℕ) → plain_chars (allowed c) cs ≡ plain_chars c cs
after-allowed c cs =
    elim (c == 65534 || c == 65535) as (λ b. (c == 65534 || c == 65535) ≡ b → plain_chars (if b then 65533 else c) cs ≡ plain_chars c cs) [
      | true ↦ λ e. after-plain 65533 c cs (record { no_word = refl; no_point = refl; no_space = refl }) (plain-refused c e)
      | false ↦ λ e. refl
    ] refl

plain-step : (s c : ℕ) (rest : List ℕ)
    → plain_chars s (chars (shown_char c ++ rest)) ≡ plain_chars s (chars (shown_char c)) ++ plain_chars c (chars rest)
plain-step s c rest =
    elim (is_escaped c) as (λ b. is_escaped c ≡ b
    → plain_chars s (chars (shown_char c ++ rest)) ≡ plain_chars s (chars (shown_char c)) ++ plain_chars c (chars rest)) [
      | true ↦ λ e.
          ap (λ t. plain_chars s (chars (t ++ rest))) (shown-escape c e)
          ∙ (ap (plain_chars s) (escape-before c rest) ∙ (plain-escape s c (chars rest)
          ∙ (ap (λ l. plain_escape c ++ l)
          (after-plain 125 c (chars rest) (record { no_word = refl; no_point = refl; no_space = refl }) (plain-escaped c e))
          ∙ ap (λ l. l ++ plain_chars c (chars rest)) (sym (plain_shown_escape s c e)))))
      | false ↦ λ e.
          ap (λ t. plain_chars s (chars (t ++ rest))) (shown-other c e)
          ∙ (ap (plain_chars s) (first-char (allowed c) rest)
          ∙ (ap (λ l. plain_char s (allowed c) ++ l) (after-allowed c (chars rest))
          ∙ ap (λ l. l ++ plain_chars c (chars rest)) (sym (plain_shown_other s c (allowed c) e refl))))
    ] refl

pub plain-more : (s c : ℕ) (text new rest whole all : List ℕ) → new ≡ text ++ plain_chars s (chars (shown_char c)) → whole ≡ encode_utf8 c ++ rest
    → text ++ plain_chars s (chars (shown whole)) ≡ all → new ++ plain_chars c (chars (shown rest)) ≡ all
plain-more s c text new rest whole all is cut before =
    let one = plain_chars s (chars (shown_char c)) in
    let more = plain_chars c (chars (shown rest)) in
    let step : plain_chars s (chars (shown whole)) ≡ one ++ more =
    ap (λ t. plain_chars s (chars (shown t))) cut ∙ (ap (λ t. plain_chars s (chars t)) (shown-more c rest) ∙ plain-step s c (shown rest)) in
    rw is (append_assoc text one more ∙ (ap (λ l. text ++ l) (sym step) ∙ before))

pub plain-end : (s : ℕ) (text rest whole : List ℕ) → length rest ≡ 0 → text ++ plain_chars s (chars (shown rest)) ≡ whole → text ≡ whole
unfolding shown chars
plain-end s text [] whole none is = sym (append-nil _) ∙ is
plain-end s text (b ∷ rest) whole none is = absurd (omega arith)
