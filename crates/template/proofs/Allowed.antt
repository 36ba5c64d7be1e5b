-- What a template renders has no characters that pass a test, if its own texts have none and no value is shown with one.
use Rattle.std.proofs.Common.{◌≡◌, ◌∙◌, ◌≤◌, ◌<◌, ◌==◌, ◌&&◌, ◌||◌, refl, sym, subst, ap, arith, ℕ, Bool, true, false, List, [], ◌∷◌, codes, if◌then◌else◌, nat_lt, not}
use Rattle.std.proofs.lemmas.Bool.{and_parts}
use Rattle.std.proofs.lemmas.Bool.Decides.{nat_tests}
use Rattle.std.proofs.lemmas.List.Concat.{flat_map-append}
use Rattle.std.proofs.lemmas.Slice.Eq.{bytes_eq-Decides}
use Rattle.std.proofs.lemmas.Str.{encode_ascii}
use Rattle.std.specs.Char.{encode_utf8}
use Rattle.std.specs.List.{flat_map, list_all}
use Rattle.std.specs.Str.{NonePass, chars, encode_utf8_all}
use Rattle.template.proofs.Characters.{chars-encode}
use Rattle.template.proofs.Lacks.{Lacks, both, lacks-decimal, lacks-escape, lacks-flat_map, lacks-more, none, not-false, one-char, visible}
use Rattle.template.proofs.Written.{high-kept, past-ascii}
use Rattle.template.specs.Clean.{is_of, part_is_of}
use Rattle.template.specs.Hole.{hole_text, markup, markup_byte, plain, plain_char, plain_chars}
use Rattle.template.specs.Shown.{allowed, escape, is_escaped, is_refused, is_text_of, is_within, is_xml_char, shown, shown_char}
use Rattle.template.specs.Template.{EachPart, HolePart, NoParts, NonePart, OnePart, PartView, Parts, TextPart, Values, if_none, items_of, part_text, parts_text, text_of}
use Rattle.template.specs.declared.hole.Hole.{Hole}
use Rattle.template.specs.declared.hole.Hole.TheVariants as hole

high-markup : (v : Bool) (b : ℕ) → 128 ≤ b → markup_byte v b ≡ b ∷ []
high-markup true b h = grind (arith, nat_tests)
high-markup false b h = grind (arith, nat_tests)

module _ (p : ℕ → Bool) (printable : (b : ℕ) → 32 ≤ b → b < 127 → visible p b ≡ true)
    (kept : (c : ℕ) → is_escaped c ≡ false → p (allowed c) ≡ false) where
  -- texts of printable characters of ASCII
  lacks-print : (bs : List ℕ) → list_all (is_within 32 126) bs ≡ true → Lacks p bs
  lacks-print [] h = none p
  lacks-print (b ∷ bs) h =
      let one = and_parts _ _ h in
      let test : is_within 32 126 b ≡ true = one.0 in
      lacks-more p b bs (printable b (grind (arith, nat_tests, test)) (grind (arith, nat_tests, test))) (lacks-print bs one.1)

  -- a value as it is shown
  lacks-shown_char : (c : ℕ) → Lacks p (shown_char c)
  lacks-shown_char c =
      elim (is_escaped c) as (λ b. is_escaped c ≡ b → Lacks p (if b then escape c else encode_utf8 (allowed c)))
      [ true ↦ λ e. lacks-escape p printable c | false ↦ λ e. one-char p (allowed c) (kept c e) ] refl

  lacks-shown : (text : List ℕ) → Lacks p (shown text)
  unfolding shown
  lacks-shown text = lacks-flat_map p shown_char lacks-shown_char (chars text)

  -- the characters of a text
  none-pass : {text : List ℕ} → Lacks p text → NonePass p (chars text)
  none-pass {text} h = subst (NonePass p) (sym (chars-encode h.is.0) ∙ ap chars h.is.1) h.is.2

  -- the bytes of a text, if those of characters past ASCII are kept
  module _ (f : ℕ → List ℕ) (high : (b : ℕ) → 128 ≤ b → f b ≡ b ∷ []) (low : (b : ℕ) → p b ≡ false → b < 128 → Lacks p (f b)) where
    lacks-char : (c : ℕ) → p c ≡ false → Lacks p (flat_map f (encode_utf8 c))
    lacks-char c e =
        elim (nat_lt c 128) as (λ b. nat_lt c 128 ≡ b → Lacks p (flat_map f (encode_utf8 c))) [
          | true ↦ λ t.
              let small : c < 128 = grind (arith, nat_tests, t) in
              subst (λ bs. Lacks p (flat_map f bs)) (sym (encode_ascii c small)) (both (low c e small) (none p))
          | false ↦ λ t.
              let great : 128 ≤ c = grind (arith, nat_tests, t) in
              subst (Lacks p) (sym (high-kept f high (encode_utf8 c) (past-ascii c great))) (one-char p c e)
        ] refl

    lacks-all : (cs : List ℕ) → NonePass p cs → Lacks p (flat_map f (encode_utf8_all cs))
    lacks-all [] n = none p
    lacks-all (c ∷ cs) n =
        subst (Lacks p) (sym (flat_map-append f (encode_utf8 c) (encode_utf8_all cs))) (both (lacks-char c n.0) (lacks-all cs n.1))

    lacks-bytes : {text : List ℕ} → Lacks p text → Lacks p (flat_map f text)
    lacks-bytes {text} h = subst (λ t. Lacks p (flat_map f t)) h.is.1 (lacks-all h.is.0 h.is.2)

  -- values in tags and between them
  either : (b : Bool) {xs ys : List ℕ} → Lacks p xs → Lacks p ys → Lacks p (if b then xs else ys)
  either true l r = l
  either false l r = r

  low-markup : (v : Bool) (b : ℕ) → p b ≡ false → b < 128 → Lacks p (markup_byte v b)
  low-markup v b e h =
      either (b == 38) (lacks-print (codes "&amp;") refl) (either (b == 60) (lacks-print (codes "&lt;") refl)
      (either (b == 62) (lacks-print (codes "&gt;") refl) (either (b == 13) (lacks-print (codes "&#13;") refl)
      (either (v && b == 34) (lacks-print (codes "&quot;") refl) (either (v && b == 9) (lacks-print (codes "&#9;") refl)
      (either (v && b == 10) (lacks-print (codes "&#10;") refl) (subst (Lacks p) (encode_ascii b h) (one-char p b e))))))))

  -- values in Markdown
  lacks-plain_char : (before c : ℕ) → p c ≡ false → Lacks p (plain_char before c)
  lacks-plain_char before c e =
      either _ (both (lacks-print (codes "&#") refl) (both (lacks-decimal p printable c) (lacks-print (codes ";") refl))) (one-char p c e)

  lacks-plain_chars : (before : ℕ) (cs : List ℕ) → NonePass p cs → Lacks p (plain_chars before cs)
  lacks-plain_chars before [] n = none p
  lacks-plain_chars before (c ∷ cs) n = both (lacks-plain_char before c n.0) (lacks-plain_chars c cs n.1)

  lacks-hole : (kind : Hole) (text : List ℕ) → Lacks p (hole_text kind text)
  unfolding hole_text markup plain
  lacks-hole hole.Text text = lacks-bytes (markup_byte false) (high-markup false) (low-markup false) (lacks-shown text)
  lacks-hole hole.Attribute text = lacks-bytes (markup_byte true) (high-markup true) (low-markup true) (lacks-shown text)
  lacks-hole hole.Plain text = lacks-plain_chars 32 (chars (shown text)) (none-pass (lacks-shown text))

  -- the template's own texts, if characters that pass another test fail this one
  module _ (test : ℕ → Bool) (own : (c : ℕ) → test c ≡ true → p c ≡ false) where
    all-own : (cs : List ℕ) → list_all test cs ≡ true → NonePass p cs
    all-own [] h = tt
    all-own (c ∷ cs) h = let one = and_parts (test c) (list_all test cs) h in (own c one.0, all-own cs one.1)

    lacks-own : (text : List ℕ) → is_text_of test text ≡ true → Lacks p text
    lacks-own text h =
        let one = and_parts _ _ h in
        record { is = (chars text, (bytes_eq-Decides (encode_utf8_all (chars text)) text).0 one.0, all-own (chars text) one.1) }

    lacks-none : (items : List Values) {text : List ℕ} → Lacks p text → Lacks p (if_none items text)
    lacks-none [] h = h
    lacks-none (i ∷ items) h = none p

    mutual
      unfolding part_text parts_text

      lacks-part : (q : PartView) (vs : Values) → part_is_of test q ≡ true → Lacks p (part_text q vs)
      lacks-part (TextPart text) vs h = lacks-own text h
      lacks-part (HolePart kind name) vs h = lacks-hole kind (text_of name vs)
      lacks-part (EachPart name ps) vs h = lacks-flat_map p (parts_text ps) (λ i. lacks-parts ps i h) (items_of name vs)
      lacks-part (NonePart name ps) vs h = lacks-none (items_of name vs) (lacks-parts ps vs h)

      pub lacks-parts : (ps : Parts) (vs : Values) → is_of test ps ≡ true → Lacks p (parts_text ps vs)
      lacks-parts NoParts vs h = none p
      lacks-parts (OnePart q ps) vs h = let one = and_parts _ _ h in both (lacks-part q vs one.0) (lacks-parts ps vs one.1)

-- XML has a place for each character
xml-printable : (b : ℕ) → 32 ≤ b → b < 127 → visible is_refused b ≡ true
xml-printable b low high = grind (arith, nat_tests)

xml-kept : (c : ℕ) → is_escaped c ≡ false → is_refused (allowed c) ≡ false
xml-kept c e =
    elim (c == 65534 || c == 65535) as (λ b. (c == 65534 || c == 65535) ≡ b → is_refused (if b then 65533 else c) ≡ false)
    [ true ↦ λ t. refl | false ↦ λ t. grind (arith, nat_tests, e, t) ] refl

all-xml : (cs : List ℕ) → NonePass is_refused cs → list_all is_xml_char cs ≡ true
all-xml [] n = refl
all-xml (c ∷ cs) n = ap (λ b. not b && list_all is_xml_char cs) n.0 ∙ all-xml cs n.1

is-xml : (text : List ℕ) → Lacks is_refused text → is_text_of is_xml_char text ≡ true
is-xml text h =
    let own : h.is.0 ≡ chars text = sym (chars-encode h.is.0) ∙ ap chars h.is.1 in
    let written : encode_utf8_all (chars text) ≡ text = ap encode_utf8_all (sym own) ∙ h.is.1 in
    ap (λ b. b && list_all is_xml_char (chars text)) ((bytes_eq-Decides (encode_utf8_all (chars text)) text).1 written)
    ∙ (ap (list_all is_xml_char) (sym own) ∙ all-xml h.is.0 h.is.2)

pub xml_chars : (ps : Parts) (vs : Values) → is_of is_xml_char ps ≡ true → is_text_of is_xml_char (parts_text ps vs) ≡ true
xml_chars ps vs h = is-xml (parts_text ps vs) (lacks-parts is_refused xml-printable xml-kept is_xml_char (λ c. not-false (is_refused c)) ps vs h)
