-- A line without its escapes.
use Rattle.std.proofs.Common.{◌≡◌, ◌≢◌, ◌∙◌, ◌==◌, ◌-◌, not, refl, ℕ, suc, ◌+◌, ◌<◌, ◌≤◌, Bool, true, false, Some, None, List, [], ◌∷◌, ◌++◌, append_assoc, length, length-append, length-take-le, get_or, get_or-append-add, take, drop, drop-cons, drop-drop, take-append-drop, arith, sym, ap, subst}
use Rattle.std.proofs.lemmas.Bool.{false_from_ne_true, false≢true}
use Rattle.std.proofs.lemmas.Bool.Decides.{nat_tests}
use Rattle.std.proofs.lemmas.List.{drop_all, get_or_append_left, get_or-take}
use Rattle.std.proofs.lemmas.List.Elements.{All-from_get_or, All-head, All-tail}
use Rattle.std.proofs.lemmas.List.Sums.{fails_before_first, position_or_len_is, suffix_len_is}
use Rattle.std.specs.List.{AllPass, after_last, position, position_or_len, suffix_len}
use Rattle.std.specs.Str.Lossy.{utf8_lossy}
use Rattle.bstr.specs.Find.{IsLastByte, is_byte}
use Rattle.test_report_events.specs.Plain.{AreParts, Byte, Escape, IsEscape, IsPlain, IsWithoutEscapes, Part, is_final, is_parameter, kept, written}

abbrev is_other : ℕ → Bool
is_other b = not (is_parameter b)

-- the first byte that is no parameter
first : (text : List ℕ) (end : ℕ) → Some end ≡ position is_other text → (end ≡ position_or_len is_other text) × (end < length text)
first text end h = grind (arith, nat_tests)

no-first : (text : List ℕ) → None ≡ position is_other text → length text ≤ position_or_len is_other text
no-first text h = grind (arith, nat_tests)

parameter : (b : ℕ) → is_other b ≡ false → is_parameter b ≡ true
parameter b h = grind (arith, nat_tests)

pub parameters_before : (text : List ℕ) (end : ℕ) → Some end ≡ position is_other text → AllPass is_parameter (take end text) × (end < length text)
parameters_before text end h =
    let at = first text end h in (
      All-from_get_or (λ b. is_parameter b ≡ true) (take end text) 0 (λ k inside.
          let below : k < end = omega (arith, length-take-le end text (omega arith)) in
          let fails = fails_before_first is_other text k 0 (omega (arith, at.0)) in
          subst (λ b. is_parameter b ≡ true) (sym (get_or-take end text k 0 below)) (parameter (get_or text k 0) fails)),
      at.1,
    )

final-other : (b : ℕ) → is_final b ≡ true → is_other b ≡ true
final-other b h = grind (arith, nat_tests)

no-both : (b : ℕ) → is_final b ≡ true → is_parameter b ≡ true → ⊥
no-both b h k = false≢true (sym (ap not k) ∙ final-other b h)

-- parameters and a last byte end at the first byte that is no parameter
parameters-end : (text parameters rest : List ℕ) (last : ℕ) → AllPass is_parameter parameters → is_final last ≡ true → text ≡ parameters ++ last ∷ rest
    → (position_or_len is_other text ≡ length parameters) × (length parameters < length text) × (get_or text (length parameters) 0 ≡ last)
parameters-end text parameters rest last all final is =
    let size : length text ≡ length parameters + (1 + length rest) = ap length is ∙ (length-append parameters (last ∷ rest) ∙ omega arith) in
    let seam : length parameters ≡ length parameters + 0 = omega arith in
    let at : get_or text (length parameters) 0 ≡ last = ap (λ xs. get_or xs (length parameters) 0) is
    ∙ (ap (λ k. get_or (parameters ++ last ∷ rest) k 0) seam ∙ get_or-append-add parameters (last ∷ rest) 0 0) in (
      position_or_len_is is_other text (length parameters) 0 (omega (arith, size))
          (λ k inside.
          let here : get_or text k 0 ≡ get_or parameters k 0 = ap (λ xs. get_or xs k 0) is ∙ get_or_append_left parameters (last ∷ rest) 0 k inside in
          ap is_other here ∙ ap not (all k 0 inside))
          (λ _. ap is_other at ∙ final-other last final),
      omega (arith, size),
      at,
    )

pub parameters_differ : (text : List ℕ) (end : ℕ) → Some end ≡ position is_other text → is_final (get_or text end 0) ≡ false
    → (parameters rest : List ℕ) (last : ℕ) → AllPass is_parameter parameters → is_final last ≡ true → text ≢ parameters ++ last ∷ rest
parameters_differ text end h differ parameters rest last all final is =
    let at = parameters-end text parameters rest last all final is in
    false≢true (sym differ ∙ (ap is_final (ap (λ k. get_or text k 0) ((first text end h).0 ∙ at.0) ∙ at.2) ∙ final))

pub parameters_none : (text : List ℕ) → None ≡ position is_other text
    → (parameters rest : List ℕ) (last : ℕ) → AllPass is_parameter parameters → is_final last ≡ true → text ≢ parameters ++ last ∷ rest
parameters_none text h parameters rest last all final is = omega (arith, no-first text h, parameters-end text parameters rest last all final is)

-- the parts of the end of a line
pub ends_line : (line : List ℕ) (at : ℕ) → length line ≤ at → IsWithoutEscapes (drop at line) []
ends_line line at past = ([], tt, drop_all at line past, refl)

pub escape_more : (line text : List ℕ) (at size : ℕ) → IsEscape (take size (drop at line)) → IsWithoutEscapes (drop (at + size) line) text
    → IsWithoutEscapes (drop at line) text
escape_more line text at size escape h = (
  Escape (take size (drop at line)) ∷ h.0,
  (escape, h.1),
  sym (take-append-drop size (drop at line)) ∙ ap (λ rest. take size (drop at line) ++ rest) (drop-drop size at line ∙ h.2),
  h.3,
)

pub byte_more : (line text : List ℕ) (at : ℕ) → at < length line → ((escape rest : List ℕ) → IsEscape escape → drop at line ≢ escape ++ rest)
    → IsWithoutEscapes (drop (at + 1) line) text → IsWithoutEscapes (drop at line) (get_or line at 0 ∷ text)
byte_more line text at inside none h =
    let next : suc at ≡ at + 1 = omega arith in
    let is : drop at line ≡ get_or line at 0 ∷ written h.0 =
    drop-cons line at 0 inside ∙ ap (λ rest. get_or line at 0 ∷ rest) (ap (λ k. drop k line) next ∙ h.2) in
    (Byte (get_or line at 0) ∷ h.0, ((λ escape rest is_escape e. none escape rest is_escape (is ∙ e)), h.1), is, ap (λ rest. get_or line at 0 ∷ rest) h.3)

-- a line is one text without its escapes
same-after : (p q v w : List ℕ) (x y : ℕ) → AllPass is_parameter p → AllPass is_parameter q → is_final x ≡ true → is_final y ≡ true
    → p ++ x ∷ v ≡ q ++ y ∷ w → v ≡ w
same-after [] [] v w x y h k m n e = cc
same-after [] (c ∷ q) v w x y h k m n e =
    let same : x ≡ c = cc in absurd (no-both x m (ap is_parameter same ∙ All-head (λ b. is_parameter b ≡ true) c q k))
same-after (c ∷ p) [] v w x y h k m n e =
    let same : y ≡ c = cc in absurd (no-both y n (ap is_parameter same ∙ All-head (λ b. is_parameter b ≡ true) c p h))
same-after (c ∷ p) (d ∷ q) v w x y h k m n e = let tails : p ++ x ∷ v ≡ q ++ y ∷ w = cc in
    same-after p q v w x y (All-tail (λ b. is_parameter b ≡ true) c p h) (All-tail (λ b. is_parameter b ≡ true) d q k) m n tails

after-escape : (s v : List ℕ) (escape : IsEscape s) → s ++ v ≡ 27 ∷ 91 ∷ (escape.parameters ++ escape.final ∷ v)
after-escape s v escape = ap (λ t. t ++ v) escape.is ∙ ap (λ t. 27 ∷ 91 ∷ t) (append_assoc escape.parameters (escape.final ∷ []) v)

not-empty : (s v : List ℕ) → IsEscape s → [] ≢ s ++ v
not-empty s v escape e = let size = ap length (e ∙ after-escape s v escape) in omega (arith, size)

one-kept : (ps qs : List Part) → AreParts ps → AreParts qs → written ps ≡ written qs → kept ps ≡ kept qs
one-kept [] [] h k e = refl
one-kept [] (Escape s ∷ qs) h k e = absurd (not-empty s (written qs) k.0 e)
one-kept [] (Byte b ∷ qs) h k e = absurd (let size = ap length e in omega (arith, size))
one-kept (Escape s ∷ ps) [] h k e = absurd (not-empty s (written ps) h.0 (sym e))
one-kept (Byte b ∷ ps) [] h k e = absurd (let size = ap length e in omega (arith, size))
one-kept (Byte b ∷ ps) (Byte c ∷ qs) h k e =
    let tails : written ps ≡ written qs = cc in let rest = one-kept ps qs h.1 k.1 tails in let heads : b ≡ c = cc in cc
one-kept (Byte b ∷ ps) (Escape s ∷ qs) h k e = absurd (h.0 s (written qs) k.0 e)
one-kept (Escape s ∷ ps) (Byte b ∷ qs) h k e = absurd (k.0 s (written ps) h.0 (sym e))
one-kept (Escape s ∷ ps) (Escape t ∷ qs) h k e =
    let both = sym (after-escape s (written ps) h.0) ∙ (e ∙ after-escape t (written qs) k.0) in
    let params : h.0.parameters ++ h.0.final ∷ written ps ≡ k.0.parameters ++ k.0.final ∷ written qs = cc in
    one-kept ps qs h.1 k.1
    (same-after h.0.parameters k.0.parameters (written ps) (written qs) h.0.final k.0.final h.0.passes k.0.passes h.0.ends k.0.ends params)

pub one-plain : (line a b : List ℕ) → IsPlain line a → IsPlain line b → a ≡ b
one-plain line a b h k =
    let one = one-kept h.1.0 k.1.0 h.1.1 k.1.1 (sym h.1.2 ∙ k.1.2) in
    h.2 ∙ (ap (λ t. utf8_lossy (after_last (λ b. b == 13) t)) (h.1.3 ∙ (one ∙ sym k.1.3)) ∙ sym k.2)

-- the text after the last carriage return
pub after_byte : (text : List ℕ) (at : ℕ) → IsLastByte (is_byte 13) text (Some at) → drop (at + 1) text ≡ after_last (λ b. b == 13) text
after_byte text at h =
    let size = suffix_len_is (λ b. not (b == 13)) text (at + 1) 0 (omega (arith, h.0.high))
    (λ k low high. ap not (false_from_ne_true _ (λ is. h.0.after k (omega arith) high is)))
    (λ some. let e : at + 1 - 1 ≡ at = omega arith in ap not (ap (λ i. get_or text i 0 == 13) e ∙ h.1)) in
    ap (λ i. drop i text) (omega (arith, size, h.0.high))

pub after_no_byte : (text : List ℕ) → IsLastByte (is_byte 13) text None → text ≡ after_last (λ b. b == 13) text
after_no_byte text none =
    let size = suffix_len_is (λ b. not (b == 13)) text 0 0 (omega arith)
    (λ k low high. ap not (false_from_ne_true _ (λ is. none k low high is)))
    (λ some. absurd (omega arith)) in
    let start : 0 ≡ length text - suffix_len (λ b. not (b == 13)) text = omega (arith, size) in
    ap (λ i. drop i text) start
