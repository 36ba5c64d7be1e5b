-- What is rendered of a template that is one element is one tree.
use Rattle.std.proofs.Common.{◌≡◌, ◌∙◌, refl, sym, ap, ℕ, ◌==◌, ◌&&◌, ◌||◌, Bool, true, false, List, [], ◌∷◌, ◌++◌, append-nil, codes, if◌then◌else◌, map, Option, Some, None}
use Rattle.std.proofs.Math.Logic.{⊎_elim}
use Rattle.std.proofs.lemmas.Bool.{and_parts, false≢true}
use Rattle.std.proofs.lemmas.Bool.Decides.{eqb_tells}
use Rattle.std.proofs.lemmas.Slice.Eq.{bytes_eq-Decides}
use Rattle.std.specs.List.{fold}
use Rattle.template.proofs.Allowed.{xml_chars}
use Rattle.template.proofs.Bare.{bare-step}
use Rattle.template.proofs.Data.{run, run-more}
use Rattle.template.proofs.Filling.{goes_on, part-read, parts-read, passed, refused-part, same-goes-on, section-read, went-on}
use Rattle.template.specs.Laws.{RendersOneTree}
use Rattle.template.specs.Check.{after_part, after_parts, at_start, bare, bare_open, has_open, part_passes, parts_pass, same_state, takes, text_passes}
use Rattle.template.specs.Document.{end_tag, ends_document, ends_only, filled_tree, inside, is_document, is_last_tag}
use Rattle.template.specs.Filled.{read_part, read_parts, reader_if_none, with_data}
use Rattle.template.specs.Reader.{AfterValue, AttributeName, Content, EndTag, Equals, Open, Opening, Place, Reading, Reference, Refused, Slash, Space, StartName, Tag, Value, ValueReference, closed, end_byte, end_name, in_order, is_letter, is_name_byte, meaning, meant, meant_in_value, read_tree, step, tag_byte, whole}
use Rattle.template.specs.Template.{EachPart, HolePart, NoParts, NonePart, OnePart, PartView, Parts, TextPart, Values, items_of, part_text, parts_text, text_of}
use Rattle.template.specs.Shown.{is_text_of, is_xml_char, shown}
use Rattle.template.specs.declared.hole.Hole.{Hole}
use Rattle.template.specs.declared.hole.Hole.TheVariants as hole
use Rattle.template.specs.Tree.{ElementTree, NoTrees, TreeView}

-- the place of a state
abbrev place_of : Reading → Place
place_of (Content p) = p
place_of (Reference p name) = p
place_of (Opening p) = p
place_of (StartName p name) = p
place_of (Space t) = t.place
place_of (AttributeName t name) = t.place
place_of (Equals t name) = t.place
place_of (Value t name value) = t.place
place_of (ValueReference t name value ref) = t.place
place_of (AfterValue t) = t.place
place_of (Slash t) = t.place
place_of (EndTag p rest) = p
place_of Refused = record { trees = []; around = [] }

-- the trees outside of all elements
abbrev base_of : List TreeView → List Open → List TreeView
base_of trees [] = trees
base_of trees (o ∷ os) = base_of o.before os

abbrev base : Reading → List TreeView
base r = base_of (place_of r).trees (place_of r).around

base-if : (t : Bool) (x y : Reading) (b : List TreeView) → (inside x ≡ true → base x ≡ b) → (inside y ≡ true → base y ≡ b)
    → inside (if t then x else y) ≡ true → base (if t then x else y) ≡ b
base-if true x y b p q = p
base-if false x y b p q = q

never : {P : Type 0} → inside Refused ≡ true → P
never h = absurd (false≢true h)

base-more : (trees more : List TreeView) (os : List Open) → has_open os ≡ true → base_of trees os ≡ base_of more os
base-more trees more [] h = absurd (false≢true h)
base-more trees more (o ∷ os) h = refl

base-tag-byte : (t : Tag) (c : ℕ) → inside (tag_byte t c) ≡ true → base (tag_byte t c) ≡ base_of t.place.trees t.place.around
base-tag-byte t c =
    base-if (c == 32) _ _ _ (λ h. refl) (base-if (c == 62) _ _ _ (λ h. refl) (base-if (c == 47) _ _ _ (λ h. refl) (λ h. absurd (false≢true h))))

base-closed : (trees : List TreeView) (os : List Open) → inside (closed trees os) ≡ true → base (closed trees os) ≡ base_of trees os
base-closed trees [] h = absurd (false≢true h)
base-closed trees (o ∷ os) h = base-more _ o.before os h

base-end : (p : Place) (rest : List ℕ) (c : ℕ) → inside (end_byte p rest c) ≡ true → base (end_byte p rest c) ≡ base_of p.trees p.around
base-end p [] c h = absurd (false≢true h)
base-end p (b ∷ []) c h = base-if (c == b) _ _ _ (base-closed p.trees p.around) (λ k. absurd (false≢true k)) h
base-end p (b ∷ d ∷ rest) c h = base-if (c == b) _ _ _ (λ k. refl) (λ k. absurd (false≢true k)) h

base-meant : (p : Place) (o : Option ℕ) → inside (meant p o) ≡ true → base (meant p o) ≡ base_of p.trees p.around
base-meant p None h = absurd (false≢true h)
base-meant p (Some b) h = base-more _ p.trees p.around h

base-meant-in-value : (t : Tag) (name value : List ℕ) (o : Option ℕ) → inside (meant_in_value t name value o) ≡ true
    → base (meant_in_value t name value o) ≡ base_of t.place.trees t.place.around
base-meant-in-value t name value None h = absurd (false≢true h)
base-meant-in-value t name value (Some b) h = refl

base-step : (r : Reading) (c : ℕ) → inside (step r c) ≡ true → base (step r c) ≡ base r
unfolding step
base-step (Content p) c =
    base-if (c == 60) _ _ _ (λ h. refl)
    (base-if (c == 38) _ _ _ (λ h. refl) (base-if (c == 62 || c == 13) _ _ _ (λ h. absurd (false≢true h)) (base-more _ p.trees p.around)))
base-step (Reference p name) c = base-if (c == 59) _ _ _ (base-meant p (meaning name)) (λ h. refl)
base-step (Opening p) c = base-if (is_letter c) _ _ _ (λ h. refl) (base-if (c == 47) _ _ _ (λ h. refl) (λ h. absurd (false≢true h)))
base-step (StartName p name) c = base-if (is_name_byte c) _ _ _ (λ h. refl) (base-tag-byte (record { place = p; name = name; attributes = [] }) c)
base-step (Space t) c = base-if (is_letter c) _ _ _ (λ h. refl) (λ h. absurd (false≢true h))
base-step (AttributeName t name) c =
    base-if (is_name_byte c) _ _ _ (λ h. refl) (base-if (c == 61) _ _ _ (λ h. refl) (λ h. absurd (false≢true h)))
base-step (Equals t name) c = base-if (c == 34) _ _ _ (λ h. refl) (λ h. absurd (false≢true h))
base-step (Value t name value) c =
    base-if (c == 34) _ _ _ (λ h. refl)
    (base-if (c == 38) _ _ _ (λ h. refl)
    (base-if (c == 60 || (c == 62 || (c == 9 || (c == 10 || c == 13)))) _ _ _ (λ h. absurd (false≢true h)) (λ h. refl)))
base-step (ValueReference t name value ref) c = base-if (c == 59) _ _ _ (base-meant-in-value t name value (meaning ref)) (λ h. refl)
base-step (AfterValue t) c = base-tag-byte t c
base-step (Slash t) c = base-if (c == 62) _ _ _ (base-more _ t.place.trees t.place.around) (λ h. absurd (false≢true h))
base-step (EndTag p rest) c = base-end p rest c
base-step Refused c = λ h. refl

-- texts
open-bare : (os : List Open) → has_open (map bare_open os) ≡ has_open os
open-bare [] = refl
open-bare (o ∷ os) = refl

inside-bare : (r : Reading) → inside (bare r) ≡ inside r
inside-bare (Content p) = open-bare p.around
inside-bare (Reference p name) = open-bare p.around
inside-bare _ = refl

base-text : (text : List ℕ) (r : Reading) → text_passes inside text (bare r) ≡ true → base (fold step r text) ≡ base r
base-text [] r h = refl
base-text (c ∷ text) r h =
    let both = and_parts _ _ h in
    let here : inside (step r c) ≡ true = sym (inside-bare (step r c)) ∙ (ap inside (bare-step r c) ∙ both.0) in
    base-text text (step r c) (ap (text_passes inside text) (bare-step r c) ∙ both.1) ∙ base-step r c here

base-data : (kind : Hole) (r : Reading) (text : List ℕ) → takes kind (bare r) ≡ true → inside (bare r) ≡ true → base (with_data r text) ≡ base r
base-data hole.Attribute (Value t name value) text h k = refl
base-data hole.Text (Content p) text h k = base-more _ p.trees p.around (sym (open-bare p.around) ∙ k)
base-data hole.Attribute (Content p) text h k = absurd (false≢true h)
base-data hole.Attribute (Reference p name) text h k = absurd (false≢true h)
base-data hole.Attribute (Opening p) text h k = absurd (false≢true h)
base-data hole.Attribute (StartName p name) text h k = absurd (false≢true h)
base-data hole.Attribute (Space t) text h k = absurd (false≢true h)
base-data hole.Attribute (AttributeName t name) text h k = absurd (false≢true h)
base-data hole.Attribute (Equals t name) text h k = absurd (false≢true h)
base-data hole.Attribute (ValueReference t name value ref) text h k = absurd (false≢true h)
base-data hole.Attribute (AfterValue t) text h k = absurd (false≢true h)
base-data hole.Attribute (Slash t) text h k = absurd (false≢true h)
base-data hole.Attribute (EndTag p rest) text h k = absurd (false≢true h)
base-data hole.Attribute Refused text h k = absurd (false≢true h)
base-data hole.Text (Reference p name) text h k = absurd (false≢true h)
base-data hole.Text (Opening p) text h k = absurd (false≢true h)
base-data hole.Text (StartName p name) text h k = absurd (false≢true h)
base-data hole.Text (Space t) text h k = absurd (false≢true h)
base-data hole.Text (AttributeName t name) text h k = absurd (false≢true h)
base-data hole.Text (Equals t name) text h k = absurd (false≢true h)
base-data hole.Text (Value t name value) text h k = absurd (false≢true h)
base-data hole.Text (ValueReference t name value ref) text h k = absurd (false≢true h)
base-data hole.Text (AfterValue t) text h k = absurd (false≢true h)
base-data hole.Text (Slash t) text h k = absurd (false≢true h)
base-data hole.Text (EndTag p rest) text h k = absurd (false≢true h)
base-data hole.Text Refused text h k = absurd (false≢true h)
base-data hole.Plain r text h k = absurd (false≢true h)

-- sections
module _ (g : Values → Reading → Reading) (b : Reading)
    (one : (i : Values) (s : Reading) → bare s ≡ b → (base (g i s) ≡ base s) × (bare (g i s) ≡ b)) where
  items-base : (items : List Values) (r : Reading) → bare r ≡ b → base (fold (λ s i. g i s) r items) ≡ base r
  items-base [] r h = refl
  items-base (i ∷ items) r h = let first = one i r h in items-base items (g i r) first.1 ∙ first.0

none-base : (items : List Values) (s r : Reading) → base s ≡ base r → base (reader_if_none items s r) ≡ base r
none-base [] s r h = h
none-base (i ∷ items) s r h = refl

-- parts keep the trees outside
abbrev KeepBase : Parts → Type 0
KeepBase ps = (vs : Values) (r : Reading) → goes_on (after_parts ps (bare r)) ≡ true → parts_pass inside ps (bare r) ≡ true → base (read_parts ps vs r) ≡ base r

section-base : (ps : Parts) → KeepBase ps → (vs : Values) (r s : Reading) → same_state (after_parts ps (bare r)) (bare r) ≡ true
    → parts_pass inside ps (bare r) ≡ true → bare s ≡ bare r → (base (read_parts ps vs s) ≡ base s) × (bare (read_parts ps vs s) ≡ bare r)
section-base ps keep vs r s e h k =
    let goes : goes_on (after_parts ps (bare s)) ≡ true = ap (λ b. goes_on (after_parts ps b)) k ∙ same-goes-on (after_parts ps (bare r)) (bare r) e in
    (keep vs s goes (ap (parts_pass inside ps) k ∙ h), (section-read ps (parts-read ps) vs r s e k).bare_is)

mutual
  unfolding read_part read_parts

  part-base : (p : PartView) (vs : Values) (r : Reading) → goes_on (after_part p (bare r)) ≡ true → part_passes inside p (bare r) ≡ true
      → base (read_part p vs r) ≡ base r
  part-base (TextPart text) vs r g h = base-text text r h
  part-base (HolePart kind name) vs r g h = base-data kind r (shown (text_of name vs)) (passed (takes kind (bare r)) (bare r) g) h
  part-base (EachPart name ps) vs r g h =
      let e = passed (same_state (after_parts ps (bare r)) (bare r)) (bare r) g in
      items-base (read_parts ps) (bare r) (λ i s k. section-base ps (parts-base ps) i r s e h k) (items_of name vs) r refl
  part-base (NonePart name ps) vs r g h =
      let e = passed (same_state (after_parts ps (bare r)) (bare r)) (bare r) g in
      none-base (items_of name vs) (read_parts ps vs r) r (section-base ps (parts-base ps) vs r r e h refl).0

  parts-base : (ps : Parts) (vs : Values) (r : Reading) → goes_on (after_parts ps (bare r)) ≡ true → parts_pass inside ps (bare r) ≡ true
      → base (read_parts ps vs r) ≡ base r
  parts-base NoParts vs r g h = refl
  parts-base (OnePart p ps) vs r g h =
      let both = and_parts _ _ h in
      let first = went-on ps (after_part p (bare r)) g in
      let after = (part-read p vs r first).bare_is in
      parts-base ps vs (read_part p vs r) (ap (λ b. goes_on (after_parts ps b)) after ∙ g) (ap (parts_pass inside ps) after ∙ both.1)
      ∙ part-base p vs r first both.0

and-false : (b : Bool) → (b && false) ≡ false
and-false true = refl
and-false false = refl

-- the end tag
same : (c : ℕ) → (c == c) ≡ true
same c = ⊎_elim (λ e. e.0) (λ n. absurd (n.1 refl)) (eqb_tells c c)

end-more : (p : Place) (c d : ℕ) (rest : List ℕ) → step (EndTag p (c ∷ d ∷ rest)) c ≡ EndTag p (d ∷ rest)
unfolding step
end-more p c d rest = let e : (c == c) ≡ true = same c in rw e refl

end-tag : (p : Place) (name : List ℕ) → run (EndTag p (name ++ codes ">")) (name ++ codes ">") ≡ closed p.trees p.around
unfolding step
end-tag p [] = refl
end-tag p (c ∷ []) = let e : (c == c) ≡ true = same c in rw e refl
end-tag p (c ∷ d ∷ name) = ap (λ r. run r (d ∷ (name ++ codes ">"))) (end-more p c d (name ++ codes ">")) ∙ end-tag p (d ∷ name)

ended : (p : Place) (name : List ℕ) → end_name p.around ≡ name ++ codes ">" → run (Content p) (end_tag name) ≡ closed p.trees p.around
unfolding step
ended p name e = ap (λ l. run (EndTag p l) (name ++ codes ">")) e ∙ end-tag p name

-- the reader is at s after a text, and has read one tree
record IsTree (r : Reading) (text : List ℕ) (s : Reading) : Type 0 where
  pub tree : TreeView
  pub is : run r text ≡ s
  pub has : whole s ≡ Some tree

last-open : (trees : List TreeView) (os : List Open) (text : List ℕ) → ends_only (map bare_open os) text ≡ true → base_of trees os ≡ []
    → IsTree (Content (record { trees = trees; around = os })) (text ++ []) (run (Content (record { trees = trees; around = os })) text)
last-open trees [] text h e = absurd (false≢true h)
last-open trees (o ∷ p ∷ os) text h e = absurd (false≢true h)
last-open trees (o ∷ []) text h e =
    let t = ElementTree o.name o.attributes (in_order trees NoTrees) in
    let here = Content (record { trees = trees; around = o ∷ [] }) in
    record {
      tree = t;
      is = ap (run here) (append-nil text);
      has =
          ap (λ l. whole (run here l)) (sym ((bytes_eq-Decides (end_tag o.name) text).0 h))
          ∙ (ap whole (ended (record { trees = trees; around = o ∷ [] }) o.name refl)
          ∙ ap (λ l. whole (Content (record { trees = t ∷ l; around = [] }))) e);
    }

last-text : (r : Reading) (text : List ℕ) → is_last_tag (TextPart text) (bare r) ≡ true → base r ≡ [] → IsTree r (text ++ []) (run r text)
last-text (Content p) text h e = last-open p.trees p.around text h e
last-text _ text h e = absurd (false≢true h)

-- the last part is no more than a text
last-refused : (p : PartView) → is_last_tag p Refused ≡ false
last-refused (TextPart text) = refl
last-refused (HolePart kind name) = refl
last-refused (EachPart name ps) = refl
last-refused (NonePart name ps) = refl

never-ends : (ps : Parts) → ends_document ps Refused ≡ false
never-ends NoParts = refl
never-ends (OnePart p NoParts) = last-refused p
never-ends (OnePart p (OnePart q ps)) =
    ap (λ b. part_passes inside p Refused && b) (ap (ends_document (OnePart q ps)) (refused-part p) ∙ never-ends (OnePart q ps))
    ∙ and-false (part_passes inside p Refused)

ends-goes-on : (ps : Parts) (r : Reading) → ends_document ps r ≡ true → goes_on r ≡ true
ends-goes-on ps Refused h = absurd (false≢true (sym (never-ends ps) ∙ h))
ends-goes-on ps _ h = refl

-- parts of one element
document-read : (ps : Parts) (vs : Values) (r : Reading) → ends_document ps (bare r) ≡ true → base r ≡ []
    → IsTree r (parts_text ps vs) (read_parts ps vs r)
unfolding part_text parts_text read_part read_parts
document-read NoParts vs r h e = absurd (false≢true h)
document-read (OnePart (TextPart text) NoParts) vs r h e = last-text r text h e
document-read (OnePart (HolePart kind name) NoParts) vs r h e = absurd (false≢true h)
document-read (OnePart (EachPart name qs) NoParts) vs r h e = absurd (false≢true h)
document-read (OnePart (NonePart name qs) NoParts) vs r h e = absurd (false≢true h)
document-read (OnePart p (OnePart q ps)) vs r h e =
    let both = and_parts _ _ h in
    let goes = ends-goes-on (OnePart q ps) (after_part p (bare r)) both.1 in
    let first = part-read p vs r goes in
    let s = read_part p vs r in
    let rest = document-read (OnePart q ps) vs s (ap (ends_document (OnePart q ps)) first.bare_is ∙ both.1) (part-base p vs r goes both.0 ∙ e) in
    record { tree = rest.tree; is = run-more r s (part_text p vs) (parts_text (OnePart q ps) vs) first.is ∙ rest.is; has = rest.has }

pub renders_one_tree : RendersOneTree
unfolding is_document read_tree filled_tree
renders_one_tree ps vs h =
    let both = and_parts _ _ h in
    let one = document-read ps vs at_start both.1 refl in
    let chars : is_text_of is_xml_char (parts_text ps vs) ≡ true = xml_chars ps vs both.0 in
    (one.tree, ap (λ b. if b then whole (run at_start (parts_text ps vs)) else None) chars ∙ (ap whole one.is ∙ one.has), one.has)
