-- Values that are written as they are.
use Rattle.std.proofs.Common.{◌≡◌, ◌∙◌, ◌<◌, refl, ap, arith, ℕ, Bool, true, false, List, [], ◌∷◌, ◌++◌}
use Rattle.std.proofs.lemmas.Bool.{and_parts}
use Rattle.std.proofs.lemmas.Bool.Decides.{nat_tests}
use Rattle.std.proofs.lemmas.Str.{encode_ascii}
use Rattle.std.specs.List.{flat_map, list_all}
use Rattle.template.proofs.Characters.{ascii-chars}
use Rattle.template.specs.Hole.{is_kept, markup, markup_byte}
use Rattle.template.specs.Shown.{allowed, is_escaped, shown, shown_char}

-- each byte is written as it is
pub all-kept : (f : ℕ → List ℕ) (keeps : ℕ → Bool) → ((b : ℕ) → keeps b ≡ true → f b ≡ b ∷ []) → (bs : List ℕ) → list_all keeps bs ≡ true
    → flat_map f bs ≡ bs
all-kept f keeps same [] h = refl
all-kept f keeps same (b ∷ bs) h =
    let both = and_parts (keeps b) (list_all keeps bs) h in
    ap (λ l. l ++ flat_map f bs) (same b both.0) ∙ ap (λ l. b ∷ l) (all-kept f keeps same bs both.1)

low : (v : Bool) (b : ℕ) → is_kept v b ≡ true → b < 128
low true b h = grind (arith, nat_tests, h)
low false b h = grind (arith, nat_tests, h)

seen : (v : Bool) (b : ℕ) → is_kept v b ≡ true → is_escaped b ≡ false
seen true b h = grind (arith, nat_tests, h)
seen false b h = grind (arith, nat_tests, h)

same-shown : (v : Bool) (b : ℕ) → is_kept v b ≡ true → shown_char b ≡ b ∷ []
same-shown v b h =
    let small = low v b h in
    let one : allowed b ≡ b = grind (arith, nat_tests) in
    rw (seen v b h, one) (encode_ascii b small)

same-markup : (v : Bool) (b : ℕ) → is_kept v b ≡ true → markup_byte v b ≡ b ∷ []
same-markup true b h = grind (arith, nat_tests, h)
same-markup false b h = grind (arith, nat_tests, h)

shown-kept : (v : Bool) (text : List ℕ) → list_all (is_kept v) text ≡ true → shown text ≡ text
unfolding shown
shown-kept v text h = ap (flat_map shown_char) (ascii-chars (is_kept v) (low v) text h) ∙ all-kept shown_char (is_kept v) (same-shown v) text h

pub kept_value : (v : Bool) (text : List ℕ) → list_all (is_kept v) text ≡ true → markup v (shown text) ≡ text
unfolding markup
kept_value v text h = ap (flat_map (markup_byte v)) (shown-kept v text h) ∙ all-kept (markup_byte v) (is_kept v) (same-markup v) text h
