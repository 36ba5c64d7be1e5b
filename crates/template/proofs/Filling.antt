-- No value of a sound template is read as markup.
use Rattle.std.proofs.Common.{◌≡◌, ◌∙◌, refl, sym, ap, ℕ, Bool, true, false, if◌then◌else◌, map, List, [], ◌∷◌, Some}
use Rattle.std.proofs.lemmas.Bool.{and_parts, false≢true}
use Rattle.std.proofs.lemmas.Slice.Eq.{bytes_eq-Decides}
use Rattle.std.specs.List.{flat_map, fold}
use Rattle.template.proofs.Bare.{bare-text}
use Rattle.template.proofs.Data.{data-bare, data-read, run, run-more}
use Rattle.template.specs.Laws.{NoValueIsMarkup}
use Rattle.template.specs.Check.{after_part, after_parts, at_start, bare, bare_open, bare_place, bare_step, same_state, is_end, is_sound, same_names, takes}
use Rattle.template.specs.Filled.{closed_trees, filled_trees, read_part, read_trees, trees_at, read_parts, reader_if_none}
use Rattle.template.specs.Tree.{NoTrees, TreeView, Trees}
use Rattle.template.specs.Reader.{AfterValue, Content, Open, Reading, Refused, in_order, step}
use Rattle.template.specs.Template.{EachPart, HolePart, NoParts, NonePart, OnePart, PartView, Parts, TextPart, Values, if_none, items_of, part_text, parts_text, text_of}
use Rattle.template.specs.Shown.{shown}
use Rattle.template.specs.declared.hole.Hole.TheVariants as hole

-- the reader has not refused what it has read
abbrev pub goes_on : Reading → Bool
goes_on Refused = false
goes_on _ = true

refused-text : (text : List ℕ) → fold bare_step Refused text ≡ Refused
unfolding step
refused-text [] = refl
refused-text (c ∷ text) = refused-text text

either-one : (b : Bool) → (if b then Refused else Refused) ≡ Refused
either-one true = refl
either-one false = refl

mutual
  pub refused-part : (p : PartView) → after_part p Refused ≡ Refused
  refused-part (TextPart text) = refused-text text
  refused-part (HolePart hole.Text name) = refl
  refused-part (HolePart hole.Attribute name) = refl
  refused-part (HolePart hole.Plain name) = refl
  refused-part (EachPart name ps) = either-one (same_state (after_parts ps Refused) Refused)
  refused-part (NonePart name ps) = either-one (same_state (after_parts ps Refused) Refused)

  refused-parts : (ps : Parts) → after_parts ps Refused ≡ Refused
  refused-parts NoParts = refl
  refused-parts (OnePart p ps) = ap (after_parts ps) (refused-part p) ∙ refused-parts ps

-- what is refused before parts is refused after them
pub went-on : (ps : Parts) (r : Reading) → goes_on (after_parts ps r) ≡ true → goes_on r ≡ true
went-on ps Refused h = absurd (false≢true (sym (ap goes_on (refused-parts ps)) ∙ h))
went-on ps _ h = refl

-- a test without which the reader refuses
pub passed : (b : Bool) (r : Reading) → goes_on (if b then r else Refused) ≡ true → b ≡ true
passed true r h = refl
passed false r h = absurd (false≢true h)

kept : (b : Bool) (r : Reading) → b ≡ true → r ≡ (if b then r else Refused)
kept true r h = refl
kept false r h = absurd (false≢true h)

-- the reader is in state s after a text, and b is this state without what was read
pub record Reads (r : Reading) (text : List ℕ) (s b : Reading) : Type 0 where
  pub is : run r text ≡ s
  pub bare_is : bare s ≡ b

none-read : {r s b : Reading} {text : List ℕ} (items : List Values) → Reads r text s b → bare r ≡ b → Reads r (if_none items text) (reader_if_none items s r) b
none-read [] h k = h
none-read (i ∷ items) h k = record { is = refl; bare_is = k }

-- the items of a section
module _ (f : Values → List ℕ) (g : Values → Reading → Reading) (b : Reading)
    (one : (i : Values) (r : Reading) → bare r ≡ b → Reads r (f i) (g i r) b) where
  items-read : (items : List Values) (r : Reading) → bare r ≡ b → Reads r (flat_map f items) (fold (λ s i. g i s) r items) b
  items-read [] r h = record { is = refl; bare_is = h }
  items-read (i ∷ items) r h =
      let first = one i r h in
      let rest = items-read items (g i r) first.bare_is in
      record { is = run-more r (g i r) (f i) (flat_map f items) first.is ∙ rest.is; bare_is = rest.bare_is }

-- bare states with the same open elements are the same
same-open : (os qs : List Open) → same_names (map bare_open os) (map bare_open qs) ≡ true → map bare_open os ≡ map bare_open qs
same-open [] [] h = refl
same-open [] (q ∷ qs) h = absurd (false≢true h)
same-open (o ∷ os) [] h = absurd (false≢true h)
same-open (o ∷ os) (q ∷ qs) h =
    let both = and_parts _ _ h in
    ap (λ name. record { name = name; attributes = []; before = [] } ∷ map bare_open os) ((bytes_eq-Decides o.name q.name).0 both.0)
    ∙ ap (λ l. bare_open q ∷ l) (same-open os qs both.1)

both-same : (x y : Reading) → same_state (bare x) (bare y) ≡ true → bare x ≡ bare y
both-same (Content p) (Content q) h = ap (λ l. Content (record { trees = []; around = l })) (same-open p.around q.around h)
both-same (AfterValue t) (AfterValue u) h =
    let both = and_parts _ _ h in
    ap (λ name. AfterValue (record { place = bare_place t.place; name = name; attributes = [] })) ((bytes_eq-Decides t.name u.name).0 both.0)
    ∙ ap (λ l. AfterValue (record { place = record { trees = []; around = l }; name = u.name; attributes = [] }))
    (same-open t.place.around u.place.around both.1)
both-same _ _ h = absurd (false≢true h)

pub same-goes-on : (x y : Reading) → same_state x y ≡ true → goes_on x ≡ true
same-goes-on Refused y h = absurd (false≢true h)
same-goes-on _ y h = refl

-- what is rendered of these parts is read
abbrev AreRead : Parts → Type 0
AreRead ps = (vs : Values) (r : Reading) → goes_on (after_parts ps (bare r)) ≡ true
    → Reads r (parts_text ps vs) (read_parts ps vs r) (after_parts ps (bare r))

-- the parts of a section, after which the same elements are open
pub section-read : (ps : Parts) → AreRead ps → (vs : Values) (r s : Reading) → same_state (after_parts ps (bare r)) (bare r) ≡ true → bare s ≡ bare r
    → Reads s (parts_text ps vs) (read_parts ps vs s) (bare r)
section-read ps are vs r s e k =
    let same : same_state (after_parts ps (bare s)) (bare r) ≡ true = ap (λ b. same_state (after_parts ps b) (bare r)) k ∙ e in
    let inner = are vs s (same-goes-on (after_parts ps (bare s)) (bare r) same) in
    let closed = both-same (read_parts ps vs s) r (ap (λ b. same_state b (bare r)) inner.bare_is ∙ same) in
    record { is = inner.is; bare_is = closed }

-- what is rendered of parts is read
mutual
  unfolding part_text parts_text read_part read_parts

  pub part-read : (p : PartView) (vs : Values) (r : Reading) → goes_on (after_part p (bare r)) ≡ true
      → Reads r (part_text p vs) (read_part p vs r) (after_part p (bare r))
  part-read (TextPart text) vs r h = record { is = refl; bare_is = bare-text text r }
  part-read (HolePart kind name) vs r h =
      let e = passed (takes kind (bare r)) (bare r) h in
      record {
        is = data-read kind r (text_of name vs) e;
        bare_is = data-bare kind r (shown (text_of name vs)) e ∙ kept (takes kind (bare r)) (bare r) e;
      }
  part-read (EachPart name ps) vs r h =
      let e = passed (same_state (after_parts ps (bare r)) (bare r)) (bare r) h in
      let items = items-read (parts_text ps) (read_parts ps) (bare r) (λ i s k. section-read ps (parts-read ps) i r s e k) (items_of name vs) r refl in
      record { is = items.is; bare_is = items.bare_is ∙ kept (same_state (after_parts ps (bare r)) (bare r)) (bare r) e }
  part-read (NonePart name ps) vs r h =
      let e = passed (same_state (after_parts ps (bare r)) (bare r)) (bare r) h in
      let inner = none-read (items_of name vs) (section-read ps (parts-read ps) vs r r e refl) refl in
      record { is = inner.is; bare_is = inner.bare_is ∙ kept (same_state (after_parts ps (bare r)) (bare r)) (bare r) e }

  pub parts-read : (ps : Parts) (vs : Values) (r : Reading) → goes_on (after_parts ps (bare r)) ≡ true
      → Reads r (parts_text ps vs) (read_parts ps vs r) (after_parts ps (bare r))
  parts-read NoParts vs r h = record { is = refl; bare_is = refl }
  parts-read (OnePart p ps) vs r h =
      let first = part-read p vs r (went-on ps (after_part p (bare r)) h) in
      let s = read_part p vs r in
      let rest = parts-read ps vs s (ap (λ b. goes_on (after_parts ps b)) first.bare_is ∙ h) in
      record { is = run-more r s (part_text p vs) (parts_text ps vs) first.is ∙ rest.is; bare_is = rest.bare_is ∙ ap (after_parts ps) first.bare_is }

-- all elements are closed
record IsOver (r : Reading) : Type 0 where
  pub trees : Trees
  pub are : trees_at r ≡ Some trees

no-names : (trees : List TreeView) (os : List Open) → same_names (map bare_open os) [] ≡ true → closed_trees trees os ≡ Some (in_order trees NoTrees)
no-names trees [] h = refl
no-names trees (o ∷ os) h = absurd (false≢true h)

is-over : (r : Reading) → is_end (bare r) ≡ true → IsOver r
is-over (Content p) h = record { trees = in_order p.trees NoTrees; are = no-names p.trees p.around h }
is-over _ h = absurd (false≢true h)

end-goes : (r : Reading) → is_end r ≡ true → goes_on r ≡ true
end-goes (Content p) h = refl
end-goes _ h = absurd (false≢true h)

pub no_value_is_markup : NoValueIsMarkup
unfolding is_sound read_trees filled_trees
no_value_is_markup ps vs h =
    let all = parts-read ps vs at_start (end-goes (after_parts ps at_start) h) in
    let over = is-over (read_parts ps vs at_start) (ap is_end all.bare_is ∙ h) in
    (over.trees, ap trees_at all.is ∙ over.are, over.are)
