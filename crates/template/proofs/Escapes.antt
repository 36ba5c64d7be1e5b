-- Escapes, as they are written in the holes of a template.
use Rattle.std.proofs.Common.{◌≡◌, ◌∙◌, ◌<◌, ◌==◌, ◌/◌, ◌%◌, ◌&&◌, ◌||◌, ◌+◌, refl, sym, ap, arith, ℕ, zero, suc, Bool, true, false, List, [], ◌∷◌, ◌++◌, append_assoc, codes, if◌then◌else◌, nat_lt}
use Rattle.std.proofs.lemmas.Bool.{and_parts}
use Rattle.std.proofs.lemmas.Bool.Decides.{nat_tests}
use Rattle.std.proofs.lemmas.Grind.{flat_map-append}
use Rattle.std.proofs.lemmas.List.Folds.{list_all-append}
use Rattle.std.proofs.lemmas.Str.{encode_ascii}
use Rattle.std.specs.Char.{encode_utf8}
use Rattle.std.specs.Fmt.{digit_glyph, digits, digits_onto}
use Rattle.std.specs.List.{flat_map, list_all}
use Rattle.std.specs.Str.{chars}
use Rattle.template.proofs.Characters.{ascii-before, ascii-chars}
use Rattle.template.proofs.Kept.{all-kept}
use Rattle.template.specs.Hole.{is_syntax, markup, markup_byte, plain_char, plain_chars, plain_escape}
use Rattle.template.specs.Shown.{escape, is_within}

-- a hexadecimal digit
abbrev is_hex : ℕ → Bool
is_hex b = is_within 48 57 b || is_within 97 103 b

glyph : (d : ℕ) → d < 16 → is_hex (digit_glyph false d) ≡ true
glyph d h =
    elim (nat_lt d 10) as (λ b. nat_lt d 10 ≡ b → is_hex (if b then 48 + d else 87 + d) ≡ true) [
      | true ↦ λ e. grind (arith, nat_tests, e)
      | false ↦ λ e. grind (arith, nat_tests, e)
    ] refl

hex-onto : (k n : ℕ) (acc : List ℕ) → list_all is_hex acc ≡ true → list_all is_hex (digits_onto k 16 false n acc) ≡ true
hex-onto zero n acc h = h
hex-onto (suc k) n acc h =
    let longer = digit_glyph false (n % 16) ∷ acc in
    let more : list_all is_hex longer ≡ true = ap (λ b. b && list_all is_hex acc) (glyph (n % 16) (omega arith)) ∙ h in
    elim (n / 16 == 0) as (λ b. list_all is_hex (if b then longer else digits_onto k 16 false (n / 16) longer) ≡ true)
    [ true ↦ more | false ↦ hex-onto k (n / 16) longer more ]

hex-digits : (n : ℕ) → list_all is_hex (digits 16 false n) ≡ true
unfolding digits
hex-digits n = hex-onto 64 n [] refl

-- between tags and in the value of an attribute
same-markup : (v : Bool) (b : ℕ) → is_hex b ≡ true → markup_byte v b ≡ b ∷ []
same-markup true b h = grind (arith, nat_tests, h)
same-markup false b h = grind (arith, nat_tests, h)

braces : (v : Bool) → (flat_map (markup_byte v) (codes "\\u{") ≡ codes "\\u{") × (flat_map (markup_byte v) (codes "}") ≡ codes "}")
braces true = (refl, refl)
braces false = (refl, refl)

pub markup-escape : (v : Bool) (c : ℕ) → markup v (escape c) ≡ escape c
unfolding markup escape
markup-escape v c =
    let f = markup_byte v in
    flat_map-append f (codes "\\u{") (digits 16 false c ++ codes "}")
    ∙ (ap (λ l. l ++ flat_map f (digits 16 false c ++ codes "}")) (braces v).0
    ∙ ap (λ l. codes "\\u{" ++ l)
    (flat_map-append f (digits 16 false c) (codes "}")
    ∙ (ap (λ l. l ++ flat_map f (codes "}")) (all-kept f is_hex (same-markup v) (digits 16 false c) (hex-digits c))
    ∙ ap (λ l. digits 16 false c ++ l) (braces v).1)))

-- in Markdown
low : (b : ℕ) → is_hex b ≡ true → b < 128
low b h = grind (arith, nat_tests, h)

same-plain : (s : ℕ) (b : ℕ) → is_hex b ≡ true → plain_char s b ≡ b ∷ []
same-plain s b h =
    let test : is_syntax s b ≡ false = grind (arith, nat_tests, h) in
    rw test (encode_ascii b (low b h))

plain-hex : (s : ℕ) (ds cs : List ℕ) → list_all is_hex ds ≡ true → plain_chars s (ds ++ 125 ∷ cs) ≡ ds ++ (codes "&#125;" ++ plain_chars 125 cs)
unfolding digits
plain-hex s [] cs h = refl
plain-hex s (d ∷ ds) cs h =
    let both = and_parts (is_hex d) (list_all is_hex ds) h in
    ap (λ l. l ++ plain_chars d (ds ++ 125 ∷ cs)) (same-plain s d both.0) ∙ ap (λ l. d ∷ l) (plain-hex d ds cs both.1)

-- all bytes of an escape are ASCII
abbrev is_low : ℕ → Bool
is_low b = nat_lt b 128

low-hex : (ds : List ℕ) → list_all is_hex ds ≡ true → list_all is_low ds ≡ true
low-hex [] h = refl
low-hex (d ∷ ds) h =
    let both = and_parts (is_hex d) (list_all is_hex ds) h in
    let one : is_low d ≡ true = let e = both.0 in grind (arith, nat_tests, e) in
    ap (λ b. b && list_all is_low ds) one ∙ low-hex ds both.1

low-escape : (c : ℕ) → list_all is_low (escape c) ≡ true
unfolding escape
low-escape c =
    list_all-append is_low (digits 16 false c) (codes "}") ∙ ap (λ b. b && true) (low-hex (digits 16 false c) (hex-digits c))

below : (b : ℕ) → is_low b ≡ true → b < 128
below b h = grind (arith, nat_tests, h)

pub chars-escape : (c : ℕ) → chars (escape c) ≡ escape c
chars-escape c = ascii-chars is_low below (escape c) (low-escape c)

pub escape-before : (c : ℕ) (rest : List ℕ) → chars (escape c ++ rest) ≡ escape c ++ chars rest
escape-before c rest = ascii-before is_low below (escape c) rest (low-escape c)

pub plain-escape : (s : ℕ) (c : ℕ) (cs : List ℕ) → plain_chars s (escape c ++ cs) ≡ plain_escape c ++ plain_chars 125 cs
unfolding escape digits encode_utf8 plain_escape
plain-escape s c cs =
    ap (plain_chars s) (ap (λ l. codes "\\u{" ++ l) (append_assoc (digits 16 false c) (codes "}") cs))
    ∙ (ap (λ l. codes "&#92;u&#123;" ++ l) (plain-hex 123 (digits 16 false c) cs (hex-digits c))
    ∙ ap (λ l. codes "&#92;u&#123;" ++ l) (sym (append_assoc (digits 16 false c) (codes "&#125;") (plain_chars 125 cs))))
