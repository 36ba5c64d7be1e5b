-- Clean texts, and texts without their sequences.
use Rattle.std.proofs.Common.{◌≡◌, ◌≢◌, ◌∙◌, ◌<◌, ◌==◌, inl, refl, sym, ap, arith, ℕ, Bool, true, false, true≢false, List, [], ◌∷◌, ◌++◌, append-nil, append_assoc, if◌then◌else◌}
use Rattle.std.proofs.lemmas.Bool.{and_parts}
use Rattle.std.proofs.lemmas.Bool.Decides.{nat_tests}
use Rattle.std.proofs.lemmas.List.Elements.{All-append, All-cons, All-nil}
use Rattle.std.specs.List.{flat_map, list_all}
use Rattle.report_text.specs.Line.{is_shown}
use Rattle.report_text.specs.Sequence.{IsClean, IsPiece, Begun, InLink, Ending, InStyle, Outside, is_encoded_target, is_parameter, link_mark, visible, visible_from}

-- clean texts
pub clean-nil : IsClean []
clean-nil = record { pieces = []; is = refl; each = All-nil IsPiece }

pub clean-piece : (piece : List ℕ) → IsPiece piece → IsClean piece
clean-piece piece h = record { pieces = piece ∷ []; is = sym (append-nil piece); each = All-cons IsPiece piece [] h (All-nil IsPiece) }

clean-one : (c : ℕ) → is_shown c ≡ true → IsClean (c ∷ [])
clean-one c h = clean-piece (c ∷ []) (inl (c, refl, h))

flat-both : (xs ys : List (List ℕ)) → flat_map (λ p. p) (xs ++ ys) ≡ flat_map (λ p. p) xs ++ flat_map (λ p. p) ys
flat-both [] ys = refl
flat-both (x ∷ xs) ys = ap (λ l. x ++ l) (flat-both xs ys) ∙ sym (append_assoc x (flat_map (λ p. p) xs) (flat_map (λ p. p) ys))

pub clean-both : {xs ys : List ℕ} → IsClean xs → IsClean ys → IsClean (xs ++ ys)
clean-both {xs} {ys} a b = record {
  pieces = a.pieces ++ b.pieces;
  is = rw (a.is, b.is) (sym (flat-both a.pieces b.pieces));
  each = All-append IsPiece a.pieces b.pieces a.each b.each;
}

pub clean-shown : (cs : List ℕ) → list_all is_shown cs ≡ true → IsClean cs
clean-shown [] h = clean-nil
clean-shown (c ∷ cs) h = let parts = and_parts (is_shown c) (list_all is_shown cs) h in clean-both {xs = c ∷ []} (clean-one c parts.0) (clean-shown cs parts.1)

-- a text after which no sequence has begun
abbrev pub IsWhole : List ℕ → Type 0
IsWhole text = (more : List ℕ) → visible (text ++ more) ≡ visible text ++ visible more

pub whole-both : (xs ys : List ℕ) → IsWhole xs → IsWhole ys → IsWhole (xs ++ ys)
whole-both xs ys a b = λ more.
    ap visible (append_assoc xs ys more)
    ∙ (a (ys ++ more)
    ∙ (ap (λ l. visible xs ++ l) (b more)
    ∙ (sym (append_assoc (visible xs) (visible ys) (visible more)) ∙ ap (λ l. l ++ visible more) (sym (a ys)))))

shown-escape : (c : ℕ) → is_shown c ≡ true → (c == 27) ≡ false
shown-escape c h = let other : c ≢ 27 = λ e. true≢false (sym h ∙ ap is_shown e) in grind (arith, nat_tests)

shown-before : (cs more : List ℕ) → list_all is_shown cs ≡ true → visible (cs ++ more) ≡ cs ++ visible more
shown-before [] more h = refl
shown-before (c ∷ cs) more h =
    let parts = and_parts (is_shown c) (list_all is_shown cs) h in
    ap (λ (b : Bool). if b then visible_from Begun (cs ++ more) else c ∷ visible (cs ++ more)) (shown-escape c parts.0)
    ∙ ap (λ l. c ∷ l) (shown-before cs more parts.1)

pub shown-visible : (cs : List ℕ) → list_all is_shown cs ≡ true → visible cs ≡ cs
shown-visible cs h = ap visible (sym (append-nil cs)) ∙ (shown-before cs [] h ∙ append-nil cs)

pub shown-whole : (cs : List ℕ) → list_all is_shown cs ≡ true → IsWhole cs
shown-whole cs h = λ more. shown-before cs more h ∙ ap (λ l. l ++ visible more) (sym (shown-visible cs h))

-- a whole sequence
pub record IsUnseen (text : List ℕ) : Type 0 where
  pub none : visible text ≡ []
  pub whole : IsWhole text

unseen : (text : List ℕ) → ((more : List ℕ) → visible (text ++ more) ≡ visible more) → IsUnseen text
unseen text h =
    let none = ap visible (sym (append-nil text)) ∙ h [] in
    record { none = none; whole = λ more. h more ∙ ap (λ l. l ++ visible more) (sym none) }

in-style : (parameters more : List ℕ) → list_all is_parameter parameters ≡ true
    → visible_from InStyle ((parameters ++ 109 ∷ []) ++ more) ≡ visible more
in-style [] more h = refl
in-style (p ∷ ps) more h =
    let parts = and_parts (is_parameter p) (list_all is_parameter ps) h in
    let low : p < 60 = grind (arith, nat_tests, parts.0) in
    let other : (p == 109) ≡ false = grind (arith, nat_tests) in
    ap (λ (b : Bool). if b then visible_from Outside ((ps ++ 109 ∷ []) ++ more) else visible_from InStyle ((ps ++ 109 ∷ []) ++ more)) other
    ∙ in-style ps more parts.1

pub unseen-style : (parameters : List ℕ) → list_all is_parameter parameters ≡ true → IsUnseen (27 ∷ 91 ∷ (parameters ++ 109 ∷ []))
unseen-style parameters h = unseen (27 ∷ 91 ∷ (parameters ++ 109 ∷ [])) (λ more. in-style parameters more h)

in-link : (target more : List ℕ) → list_all is_encoded_target target ≡ true → visible_from InLink ((target ++ 27 ∷ 92 ∷ []) ++ more) ≡ visible more
in-link [] more h = refl
in-link (c ∷ cs) more h =
    let parts = and_parts (is_encoded_target c) (list_all is_encoded_target cs) h in
    let low : 36 < c = grind (arith, nat_tests, parts.0) in
    let other : (c == 27) ≡ false = grind (arith, nat_tests) in
    ap (λ (b : Bool). if b then visible_from Ending ((cs ++ 27 ∷ 92 ∷ []) ++ more) else visible_from InLink ((cs ++ 27 ∷ 92 ∷ []) ++ more)) other
    ∙ in-link cs more parts.1

pub unseen-link : (target : List ℕ) → list_all is_encoded_target target ≡ true → IsUnseen (link_mark target)
unseen-link target h = unseen (link_mark target) (λ more. in-link target more h)
