-- Every value that a template has a hole for is in what it renders.
use Rattle.std.proofs.Common.{◌≡◌, ◌∙◌, refl, sym, ap, subst, ℕ, ◌||◌, Bool, true, false, List, [], ◌∷◌, ◌++◌, append-nil}
use Rattle.std.proofs.lemmas.Bool.{and_parts, false≢true}
use Rattle.std.proofs.lemmas.List.Elements.{All-cons, All-nil}
use Rattle.std.proofs.lemmas.Slice.Eq.{bytes_eq-Decides}
use Rattle.std.specs.List.{All, flat_map}
use Rattle.template.proofs.Parts.{Has, all-wider, each-item, in-left, in-right, whole-part}
use Rattle.template.specs.Laws.{ShowsValues}
use Rattle.template.specs.Hole.{hole_text}
use Rattle.template.specs.Shows.{items_at, part_shows, parts_show, same_kind}
use Rattle.template.specs.Template.{EachPart, HolePart, NoParts, NonePart, OnePart, PartView, Parts, TextPart, Values, items_of, part_text, parts_text, text_of}
use Rattle.template.specs.declared.hole.Hole.{Hole}
use Rattle.template.specs.declared.hole.Hole.TheVariants as hole

either-true : (a b : Bool) (P : Type 0) → (a ≡ true → P) → (b ≡ true → P) → (a || b) ≡ true → P
either-true true b P p q h = p refl
either-true false b P p q h = q h

one-kind : (k l : Hole) → same_kind k l ≡ true → k ≡ l
one-kind hole.Text hole.Text h = refl
one-kind hole.Attribute hole.Attribute h = refl
one-kind hole.Plain hole.Plain h = refl
one-kind _ _ h = absurd (false≢true h)

module _ (kind : Hole) (name : List ℕ) where
  abbrev value : Values → List ℕ
  value i = hole_text kind (text_of name i)

  mutual
    unfolding part_text parts_text

    part-shows : (p : PartView) (vs : Values) (path : List (List ℕ)) → part_shows p kind path name ≡ true
        → All (Has value (part_text p vs)) (items_at path vs)
    part-shows (TextPart text) vs path h = absurd (false≢true h)
    part-shows (HolePart own key) vs [] h =
        let both = and_parts _ _ h in
        let own-is : hole_text own (text_of key vs) ≡ value vs =
        ap (λ k. hole_text k (text_of key vs)) (one-kind own kind both.0) ∙ ap (λ n. hole_text kind (text_of n vs)) ((bytes_eq-Decides key name).0 both.1) in
        let here : Has value (hole_text own (text_of key vs)) vs = record { before = []; after = []; is = own-is ∙ sym (append-nil (value vs)) } in
        All-cons (Has value (hole_text own (text_of key vs))) vs [] here (All-nil (Has value (hole_text own (text_of key vs))))
    part-shows (HolePart own key) vs (s ∷ path) h = absurd (false≢true h)
    part-shows (EachPart key ps) vs [] h = absurd (false≢true h)
    part-shows (EachPart key ps) vs (s ∷ path) h =
        let both = and_parts _ _ h in
        subst (λ k. All (Has value (flat_map (parts_text ps) (items_of k vs))) (flat_map (items_at path) (items_of s vs)))
        (sym ((bytes_eq-Decides key s).0 both.0))
        (each-item value ps (items_at path) (λ i. parts-show ps i path both.1) (items_of s vs))
    part-shows (NonePart key ps) vs path h = absurd (false≢true h)

    parts-show : (ps : Parts) (vs : Values) (path : List (List ℕ)) → parts_show ps kind path name ≡ true
        → All (Has value (parts_text ps vs)) (items_at path vs)
    parts-show NoParts vs path h = absurd (false≢true h)
    parts-show (OnePart p ps) vs path h =
        either-true (part_shows p kind path name) (parts_show ps kind path name) (All (Has value (part_text p vs ++ parts_text ps vs)) (items_at path vs))
        (λ here. all-wider value (items_at path vs) (in-left (parts_text ps vs) (whole-part (part_text p vs))) (part-shows p vs path here))
        (λ later. all-wider value (items_at path vs) (in-right (part_text p vs) (whole-part (parts_text ps vs))) (parts-show ps vs path later)) h

pub shows_values : ShowsValues
shows_values ps vs kind path name = parts-show kind name ps vs path
