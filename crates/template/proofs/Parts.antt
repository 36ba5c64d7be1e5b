-- Parts of texts.
use Rattle.std.proofs.Common.{◌∙◌, sym, ap, subst, List, [], ◌∷◌, ◌++◌, ℕ, append-nil, append_assoc}
use Rattle.std.proofs.lemmas.List.Elements.{All-append, All-cons, All-head, All-nil, All-tail}
use Rattle.std.specs.List.{All, flat_map}
use Rattle.template.specs.Shows.{HasPart}
use Rattle.template.specs.Template.{Parts, Values, parts_text}

pub whole-part : (text : List ℕ) → HasPart text text
whole-part text = record { before = []; after = []; is = sym (append-nil text) }

pub in-left : {xs part : List ℕ} → (ys : List ℕ) → HasPart xs part → HasPart (xs ++ ys) part
in-left {xs} {part} ys h =
    let split = append_assoc h.before (part ++ h.after) ys ∙ ap (λ l. h.before ++ l) (append_assoc part h.after ys) in
    record { before = h.before; after = h.after ++ ys; is = ap (λ l. l ++ ys) h.is ∙ split }

pub in-right : {ys part : List ℕ} → (xs : List ℕ) → HasPart ys part → HasPart (xs ++ ys) part
in-right {ys} {part} xs h =
    record { before = xs ++ h.before; after = h.after; is = ap (λ l. xs ++ l) h.is ∙ sym (append_assoc xs h.before (part ++ h.after)) }

-- a part of a part
in-part : {text part inner : List ℕ} → HasPart text part → HasPart part inner → HasPart text inner
in-part {text} {part} {inner} h k = subst (λ t. HasPart t inner) (sym h.is) (in-right h.before (in-left h.after k))

-- what is rendered of items
module _ (f : Values → List ℕ) where
  abbrev pub Has : List ℕ → Values → Type 0
  Has text i = HasPart text (f i)

  pub all-wider : {part whole : List ℕ} (is : List Values) → HasPart whole part → All (Has part) is → All (Has whole) is
  all-wider {part} {whole} [] w h = All-nil (Has whole)
  all-wider {part} {whole} (i ∷ is) w h =
      All-cons (Has whole) i is (in-part w (All-head (Has part) i is h)) (all-wider is w (All-tail (Has part) i is h))

  pub each-item : (ps : Parts) (at : Values → List Values) → ((vs : Values) → All (Has (parts_text ps vs)) (at vs)) → (items : List Values)
      → All (Has (flat_map (parts_text ps) items)) (flat_map at items)
  each-item ps at one [] = All-nil (Has [])
  each-item ps at one (i ∷ items) =
      let more = flat_map (parts_text ps) items in
      All-append (Has (parts_text ps i ++ more)) (at i) (flat_map at items)
      (all-wider (at i) (in-left more (whole-part (parts_text ps i))) (one i))
      (all-wider (flat_map at items) (in-right (parts_text ps i) (whole-part more)) (each-item ps at one items))
