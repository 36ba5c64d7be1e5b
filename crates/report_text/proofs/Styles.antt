-- Sequences that set styles, at the front of a text.
use Rattle.std.proofs.Common.{◌≡◌, ◌∙◌, ◌<◌, ◌≤◌, ◌+◌, ◌&&◌, ◌==◌, refl, sym, subst, ap, arith, ℕ, true, false, true≢false, List, [], ◌∷◌, ◌++◌, append_assoc, drop, length, length-append, nat_lt, take, if◌then◌else◌}
use Rattle.std.proofs.lemmas.Bool.{and_parts}
use Rattle.std.proofs.lemmas.Bool.Decides.{nat_tests}
use Rattle.std.proofs.lemmas.Str.{IsCharBoundary-from_take, IsUtf8-from_ascii, chars-IsAscii, chars-nil, encodes-IsAscii, encodes-append, encodes-chars}
use Rattle.std.proofs.lemmas.Str.Ascii.{IsAscii-from_all}
use Rattle.std.proofs.Math.Seq.{drop-append_seam, take-append_seam}
use Rattle.std.specs.List.{list_all}
use Rattle.std.specs.Str.{IsAscii, IsCharBoundary, IsUtf8, chars, encode_utf8_all}
use Rattle.report_text.proofs.Characters.{first-char}
use Rattle.report_text.proofs.Steps.{all-below, all-both, all-weaker, both-true}
use Rattle.report_text.specs.Sequence.{IsStyle, is_parameter, parameters_len, style_len}
use Rattle.report_text.specs.Shown.{kept_len}
use Rattle.report_text.specs.declared.shown.Rules.{Rules}

abbrev pub after : ℕ → ℕ → ℕ
after n p = if nat_lt 0 p then p + n else 0

pub after-none : (p : ℕ) → p ≡ after 0 p
after-none p = grind (arith, nat_tests)

pub after-end : (all n c : ℕ) (cs : List ℕ) → all ≡ after n (parameters_len (c ∷ cs)) → c ≡ 109 → n + 1 ≡ all
after-end all n c cs e h =
    let found : parameters_len (c ∷ cs) ≡ 1 = rw h refl in
    sym (e ∙ (ap (after n) found ∙ omega arith))

pub after-stop : (all n c : ℕ) (cs : List ℕ) → all ≡ after n (parameters_len (c ∷ cs)) → (c == 109) ≡ false → is_parameter c ≡ false → 0 ≡ all
after-stop all n c cs e h k =
    let none : parameters_len (c ∷ cs) ≡ 0 = rw (h, k) refl in
    sym (e ∙ ap (after n) none)

more : (n p : ℕ) → after n (if nat_lt 0 p then p + 1 else 0) ≡ after (n + 1) p
more n p = grind (arith, nat_tests)

pub after-more : (all n c : ℕ) (cs : List ℕ) → all ≡ after n (parameters_len (c ∷ cs)) → (c == 109) ≡ false → is_parameter c ≡ true
    → all ≡ after (n + 1) (parameters_len cs)
after-more all n c cs e h k =
    let next : parameters_len (c ∷ cs) ≡ (if nat_lt 0 (parameters_len cs) then parameters_len cs + 1 else 0) = rw (h, k) refl in
    e ∙ (ap (after n) next ∙ more n (parameters_len cs))

-- a sequence at the front of a text
pub record Found (cs : List ℕ) (n : ℕ) : Type 0 where
  pub run : List ℕ
  pub rest : List ℕ
  pub is : cs ≡ run ++ rest
  pub long : length run ≡ n
  pub style : IsStyle (27 ∷ run)
  pub low : list_all (λ c. nat_lt c 128) run ≡ true

record Parameters (cs : List ℕ) (n : ℕ) : Type 0 where
  pub parameters : List ℕ
  pub rest : List ℕ
  pub is : cs ≡ parameters ++ 109 ∷ rest
  pub are : list_all is_parameter parameters ≡ true
  pub long : length parameters + 1 ≡ n

parameters : (cs : List ℕ) → nat_lt 0 (parameters_len cs) ≡ true → Parameters cs (parameters_len cs)
parameters [] h = absurd (true≢false (sym h))
parameters (c ∷ cs) h =
    elim (c == 109) as (λ b. (c == 109) ≡ b → nat_lt 0 (if b then 1 else (if is_parameter c && nat_lt 0 (parameters_len cs) then parameters_len cs + 1 else
    0)) ≡ true
    → Parameters (c ∷ cs) (if b then 1 else (if is_parameter c && nat_lt 0 (parameters_len cs) then parameters_len cs + 1 else 0))) [
      | true ↦ λ e k. let is : c ≡ 109 = grind (arith, nat_tests, e) in record { parameters = []; rest = cs; is = ap (λ x. x ∷ cs) is; are = refl; long = refl }
      | false ↦ λ e k.
          elim (is_parameter c && nat_lt 0 (parameters_len cs)) as (λ b. (is_parameter c && nat_lt 0 (parameters_len cs)) ≡ b
          → nat_lt 0 (if b then parameters_len cs + 1 else 0) ≡ true → Parameters (c ∷ cs) (if b then parameters_len cs + 1 else 0)) [
            | true ↦ λ t l.
                let parts = and_parts (is_parameter c) (nat_lt 0 (parameters_len cs)) t in
                let p = parameters cs parts.1 in
                record {
                  parameters = c ∷ p.parameters;
                  rest = p.rest;
                  is = ap (λ x. c ∷ x) p.is;
                  are = both-true _ _ parts.0 p.are;
                  long = omega (
                    arith,
                    p.long,
                  );
                }
            | false ↦ λ t l. absurd (true≢false (sym l))
          ] refl k
    ] refl h

parameter-low : (c : ℕ) → is_parameter c ≡ true → nat_lt c 128 ≡ true
parameter-low c h = let low : c < 60 = grind (arith, nat_tests, h) in grind (arith, nat_tests)

pub found : (cs : List ℕ) → nat_lt 0 (style_len cs) ≡ true → Found cs (style_len cs)
found [] h = absurd (true≢false (sym h))
found (c ∷ cs) h =
    elim (c == 91 && nat_lt 0 (parameters_len cs)) as (λ b. (c == 91 && nat_lt 0 (parameters_len cs)) ≡ b
    → nat_lt 0 (if b then parameters_len cs + 1 else 0) ≡ true → Found (c ∷ cs) (if b then parameters_len cs + 1 else 0)) [
      | true ↦ λ t l.
          let parts = and_parts (c == 91) (nat_lt 0 (parameters_len cs)) t in
          let is : c ≡ 91 = grind (arith, nat_tests, parts.0) in
          let p = parameters cs parts.1 in
          record {
            run = 91 ∷ (p.parameters ++ 109 ∷ []);
            rest = p.rest;
            is = ap (λ x. x ∷ cs) is ∙ ap (λ l. 91 ∷ l) (p.is ∙ sym (append_assoc p.parameters (109 ∷ []) p.rest));
            long = omega (arith, length-append p.parameters (109 ∷ []), p.long);
            style = record { parameters = p.parameters; is = refl; are = p.are };
            low = all-both (λ c. nat_lt c 128) p.parameters (109 ∷ []) (all-weaker is_parameter (λ c. nat_lt c 128) parameter-low p.parameters p.are) refl;
          }
      | false ↦ λ t l. absurd (true≢false (sym l))
    ] refl h

low-ascii : (run : List ℕ) → list_all (λ c. nat_lt c 128) run ≡ true → IsAscii run
low-ascii run h = IsAscii-from_all run (all-below (λ c. nat_lt c 128) (λ c e. grind (arith, nat_tests, e)) run h)

chars-encode : (cs : List ℕ) → chars (encode_utf8_all cs) ≡ cs
chars-encode [] = chars-nil
chars-encode (c ∷ cs) = first-char c (encode_utf8_all cs) ∙ ap (λ l. c ∷ l) (chars-encode cs)

-- a sequence at the front of the bytes of a text
pub record Cut (tail : List ℕ) (n : ℕ) : Type 0 where
  pub boundary : IsCharBoundary tail n
  pub style : IsStyle (27 ∷ take n tail)
  pub long : length (take n tail) ≡ n
  pub is : chars tail ≡ take n tail ++ chars (drop n tail)
  pub as_chars : chars (take n tail) ≡ take n tail

pub cut : (tail : List ℕ) (n : ℕ) → IsUtf8 tail → n ≡ style_len (chars tail) → 0 < n → Cut tail n
cut tail n utf8 e h =
    let test : nat_lt 0 (style_len (chars tail)) ≡ true = grind (arith, nat_tests) in
    let f = found (chars tail) test in
    let ascii = low-ascii f.run f.low in
    let bytes : tail ≡ f.run ++ encode_utf8_all f.rest =
    sym (encodes-chars tail utf8) ∙ (ap encode_utf8_all f.is ∙ (encodes-append f.run f.rest ∙ ap (λ l. l ++ encode_utf8_all f.rest) (encodes-IsAscii f.run
    ascii))) in
    let size : length f.run ≡ n = f.long ∙ sym e in
    let took : take n tail ≡ f.run = ap (take n) bytes ∙ (ap (λ k. take k (f.run ++ encode_utf8_all f.rest)) (sym size) ∙ take-append_seam f.run
    (encode_utf8_all f.rest)) in
    let left : drop n tail ≡ encode_utf8_all f.rest = ap (drop n) bytes ∙ (ap (λ k. drop k (f.run ++ encode_utf8_all f.rest)) (sym size) ∙ drop-append_seam
    f.run (encode_utf8_all f.rest)) in
    let all : length tail ≡ length (f.run ++ encode_utf8_all f.rest) = ap length bytes in
    let within : n ≤ length tail = omega (arith, length-append f.run (encode_utf8_all f.rest)) in
    record {
      boundary = IsCharBoundary-from_take tail n utf8 within (subst IsUtf8 (sym took) (IsUtf8-from_ascii f.run ascii));
      style = subst (λ l. IsStyle (27 ∷ l)) (sym took) f.style;
      long = ap length took ∙ size;
      is = f.is ∙ (ap (λ l. l ++ f.rest) (sym took) ∙ ap (λ l. take n tail ++ l) (sym (ap chars left ∙ chars-encode f.rest)));
      as_chars = ap chars took ∙ (chars-IsAscii f.run ascii ∙ sym took);
    }

if-kept : (r : Rules) (c n : ℕ) (cs : List ℕ) → n ≡ kept_len r c cs → 0 < n → (c ≡ 27) × (n ≡ style_len cs)
if-kept r c n cs e h =
    elim (r.keeps_colours && c == 27) as (λ b. (r.keeps_colours && c == 27) ≡ b → n ≡ (if b then style_len cs else 0) → (c ≡ 27) × (n ≡ style_len cs)) [
      | true ↦ λ t k. let is = (and_parts r.keeps_colours (c == 27) t).1 in (grind (arith, nat_tests, is), k)
      | false ↦ λ t k. absurd (omega (arith, k))
    ] refl e

pub kept-escape : (r : Rules) (c n : ℕ) (cs : List ℕ) → n ≡ kept_len r c cs → 0 < n → c ≡ 27
kept-escape r c n cs e h = (if-kept r c n cs e h).0

pub cut-kept : (r : Rules) (tail : List ℕ) (c n : ℕ) → IsUtf8 tail → n ≡ kept_len r c (chars tail) → 0 < n → Cut tail n
cut-kept r tail c n utf8 e h = cut tail n utf8 (if-kept r c n (chars tail) e h).1 h

pub found-kept : (r : Rules) (c : ℕ) (cs : List ℕ) → nat_lt 0 (kept_len r c cs) ≡ true → (c ≡ 27) × Found cs (kept_len r c cs)
found-kept r c cs h =
    let some : 0 < kept_len r c cs = grind (arith, nat_tests, h) in
    let is = if-kept r c (kept_len r c cs) cs refl some in
    (is.0, subst (Found cs) (sym is.1) (found cs (ap (nat_lt 0) (sym is.1) ∙ h)))

pub style-found : (c n : ℕ) (cs : List ℕ) → c ≡ 91 → n ≡ parameters_len cs → 0 < n → n + 1 ≡ style_len (c ∷ cs)
style-found c n cs is e h =
    let test : nat_lt 0 (parameters_len cs) ≡ true = grind (arith, nat_tests) in
    let value : style_len (c ∷ cs) ≡ parameters_len cs + 1 = rw (is, test) refl in
    ap (λ k. k + 1) e ∙ sym value

pub style-none : (c n : ℕ) (cs : List ℕ) → n ≡ parameters_len cs → n ≡ 0 → 0 ≡ style_len (c ∷ cs)
style-none c n cs e z =
    let test : nat_lt 0 (parameters_len cs) ≡ false = grind (arith, nat_tests) in
    elim (c == 91) as (λ b. 0 ≡ (if b && nat_lt 0 (parameters_len cs) then parameters_len cs + 1 else 0)) [ true ↦ rw test refl | false ↦ refl ]
