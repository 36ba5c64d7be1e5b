-- What the reader does next does not depend on what it has read, except open names.
use Rattle.std.proofs.Common.{◌≡◌, ◌∙◌, refl, ap, ℕ, ◌==◌, ◌||◌, Bool, true, false, List, [], ◌∷◌, ◌++◌, if◌then◌else◌, map, Option, Some, None}
use Rattle.std.specs.List.{fold}
use Rattle.template.specs.Check.{bare, bare_open, bare_place, bare_step, bare_tag}
use Rattle.template.specs.Reader.{AfterValue, AttributeName, Content, EndTag, Equals, Open, Opening, Place, Reading, Reference, Refused, Slash, Space, StartName, Tag, Value, ValueReference, closed, end_byte, end_name, is_letter, is_name_byte, meaning, meant, meant_in_value, step, tag_byte}
use Rattle.template.specs.Tree.{TreeView}

bare-if : (t : Bool) (x y u v : Reading) → bare x ≡ bare u → bare y ≡ bare v → bare (if t then x else y) ≡ bare (if t then u else v)
bare-if true x y u v p q = p
bare-if false x y u v p q = q

twice : (os : List Open) → map bare_open os ≡ map bare_open (map bare_open os)
twice [] = refl
twice (o ∷ os) = ap (λ l. bare_open o ∷ l) (twice os)

place-twice : (p : Place) → bare_place p ≡ bare_place (bare_place p)
place-twice p = ap (λ os. record { trees = []; around = os }) (twice p.around)

tag-twice : (t : Tag) → bare_tag t ≡ bare_tag (bare_tag t)
tag-twice t = ap (λ p. record { place = p; name = t.name; attributes = [] }) (place-twice t.place)

bare-tag-byte : (t : Tag) (c : ℕ) → bare (tag_byte t c) ≡ bare (tag_byte (bare_tag t) c)
bare-tag-byte t c =
    bare-if (c == 32) _ _ _ _ (ap Space (tag-twice t))
    (bare-if (c == 62) _ _ _ _
    (ap (λ os. Content (record { trees = []; around = record { name = t.name; attributes = []; before = [] } ∷ os })) (twice t.place.around))
    (bare-if (c == 47) _ _ _ _ (ap Slash (tag-twice t)) refl))

bare-closed : (trees : List TreeView) (os : List Open) → bare (closed trees os) ≡ bare (closed [] (map bare_open os))
bare-closed trees [] = refl
bare-closed trees (o ∷ os) = ap (λ l. Content (record { trees = []; around = l })) (twice os)

bare-end : (p : Place) (rest : List ℕ) (c : ℕ) → bare (end_byte p rest c) ≡ bare (end_byte (bare_place p) rest c)
bare-end p [] c = refl
bare-end p (b ∷ []) c = bare-if (c == b) _ _ _ _ (bare-closed p.trees p.around) refl
bare-end p (b ∷ d ∷ rest) c = bare-if (c == b) _ _ _ _ (ap (λ q. EndTag q (d ∷ rest)) (place-twice p)) refl

same-end : (os : List Open) → end_name os ≡ end_name (map bare_open os)
same-end [] = refl
same-end (o ∷ os) = refl

bare-meant : (p : Place) (o : Option ℕ) → bare (meant p o) ≡ bare (meant (bare_place p) o)
bare-meant p None = refl
bare-meant p (Some b) = ap Content (place-twice p)

bare-meant-in-value : (t : Tag) (name value : List ℕ) (o : Option ℕ) → bare (meant_in_value t name value o) ≡ bare (meant_in_value (bare_tag t) [] [] o)
bare-meant-in-value t name value None = refl
bare-meant-in-value t name value (Some b) = ap (λ u. Value u [] []) (tag-twice t)

-- one byte
pub bare-step : (r : Reading) (c : ℕ) → bare (step r c) ≡ bare (step (bare r) c)
unfolding step
bare-step (Content p) c =
    bare-if (c == 60) _ _ _ _ (ap Opening (place-twice p))
    (bare-if (c == 38) _ _ _ _ (ap (λ q. Reference q []) (place-twice p)) (bare-if (c == 62 || c == 13) _ _ _ _ refl (ap Content (place-twice p))))
bare-step (Reference p name) c = bare-if (c == 59) _ _ _ _ (bare-meant p (meaning name)) (ap (λ q. Reference q (name ++ (c ∷ []))) (place-twice p))
bare-step (Opening p) c =
    bare-if (is_letter c) _ _ _ _ (ap (λ q. StartName q (c ∷ [])) (place-twice p))
    (bare-if (c == 47) _ _ _ _
    (ap (λ q. EndTag q (end_name p.around)) (place-twice p) ∙ ap (EndTag (bare_place (bare_place p))) (same-end p.around)) refl)
bare-step (StartName p name) c =
    bare-if (is_name_byte c) _ _ _ _ (ap (λ q. StartName q (name ++ (c ∷ []))) (place-twice p))
    (bare-tag-byte (record { place = p; name = name; attributes = [] }) c)
bare-step (Space t) c = bare-if (is_letter c) _ _ _ _ (ap (λ u. AttributeName u []) (tag-twice t)) refl
bare-step (AttributeName t name) c =
    bare-if (is_name_byte c) _ _ _ _ (ap (λ u. AttributeName u []) (tag-twice t)) (bare-if (c == 61) _ _ _ _ (ap (λ u. Equals u []) (tag-twice t)) refl)
bare-step (Equals t name) c = bare-if (c == 34) _ _ _ _ (ap (λ u. Value u [] []) (tag-twice t)) refl
bare-step (Value t name value) c =
    bare-if (c == 34) _ _ _ _ (ap AfterValue (tag-twice t))
    (bare-if (c == 38) _ _ _ _ (ap (λ u. ValueReference u [] [] []) (tag-twice t))
    (bare-if (c == 60 || (c == 62 || (c == 9 || (c == 10 || c == 13)))) _ _ _ _ refl (ap (λ u. Value u [] []) (tag-twice t))))
bare-step (ValueReference t name value ref) c =
    bare-if (c == 59) _ _ _ _ (bare-meant-in-value t name value (meaning ref)) (ap (λ u. ValueReference u [] [] (ref ++ (c ∷ []))) (tag-twice t))
bare-step (AfterValue t) c = bare-tag-byte t c
bare-step (Slash t) c = bare-if (c == 62) _ _ _ _ (ap Content (place-twice t.place)) refl
bare-step (EndTag p rest) c = bare-end p rest c
bare-step Refused c = refl

-- a text
pub bare-text : (text : List ℕ) (r : Reading) → bare (fold step r text) ≡ fold bare_step (bare r) text
bare-text [] r = refl
bare-text (c ∷ text) r = bare-text text (step r c) ∙ ap (λ s. fold bare_step s text) (bare-step r c)
