-- Rendering, part by part and value by value.
use Rattle.std.proofs.Common.{◌≡◌, ◌∙◌, Bor, refl, sym, ap, ℕ, ◌+◌, ◌<◌, ◌≤◌, add-one, List, [], ◌∷◌, ◌++◌, append-nil, append_assoc, drop, get_or, length, string_bytes, Some, None, String, Vec, true, false, suc}
use Rattle.std.proofs.Math.ListN.{drop_of_length-le}
use Rattle.std.proofs.Math.Seq.{drop-cons}
use Rattle.std.specs.List.{flat_map}
use Rattle.std.specs.Option.{option_to_list}
use Rattle.std.specs.declared.alloc.Global.{Global}
use Rattle.template.specs.Hole.{hole_text}
use Rattle.template.specs.Template.{Parts, Values, has_items, if_none, item_in, items_of, part_step, part_text, part_view, parts_text, parts_view, text_of, value_step, value_view, values_view}
use Rattle.template.specs.Template as spec
use Rattle.template.specs.declared.part.Part.{Part, fold-roll-Part}
use Rattle.template.specs.declared.part.Part.TheOpen.{Part-F}
use Rattle.template.specs.declared.part.Part.TheVariants as part
use Rattle.template.specs.declared.value.Value.{Value, fold-roll-Value}
use Rattle.template.specs.declared.value.Value.TheOpen.{Value-F}
use Rattle.template.specs.declared.value.Value.TheVariants as value

-- the parts as they are kept
pub text_part : (p : Part) (text : String Global) → p ≡ part.Text text → (vs : Values) → part_text (part_view p) vs ≡ string_bytes text
unfolding part_text
text_part p text is vs =
    ap (λ q. part_text (part_view q) vs) (is ∙ sym (part.rolls-Text text))
    ∙ ap (λ q. part_text q vs) (fold-roll-Part spec.PartView part_step (Part-F.Text text))

pub hole_part : (p : Part) (kind : _) (name : String Global) → p ≡ part.Hole kind name → (vs : Values)
    → part_text (part_view p) vs ≡ hole_text kind (text_of (string_bytes name) vs)
unfolding part_text
hole_part p kind name is vs =
    ap (λ q. part_text (part_view q) vs) (is ∙ sym (part.rolls-Hole kind name))
    ∙ ap (λ q. part_text q vs) (fold-roll-Part spec.PartView part_step (Part-F.Hole kind name))

pub each_part : (p : Part) (name : String Global) (parts : Vec Part Global) → p ≡ part.Each name parts → (vs : Values)
    → part_text (part_view p) vs ≡ flat_map (parts_text (parts_view parts.items)) (items_of (string_bytes name) vs)
unfolding part_text
each_part p name parts is vs =
    ap (λ q. part_text (part_view q) vs) (is ∙ sym (part.rolls-Each name parts))
    ∙ ap (λ q. part_text q vs) (fold-roll-Part spec.PartView part_step (Part-F.Each name parts))

pub otherwise_part : (p : Part) (name : String Global) (parts : Vec Part Global) → p ≡ part.Otherwise name parts → (vs : Values)
    → part_text (part_view p) vs ≡ if_none (items_of (string_bytes name) vs) (parts_text (parts_view parts.items) vs)
unfolding part_text
otherwise_part p name parts is vs =
    ap (λ q. part_text (part_view q) vs) (is ∙ sym (part.rolls-Otherwise name parts))
    ∙ ap (λ q. part_text q vs) (fold-roll-Part spec.PartView part_step (Part-F.Otherwise name parts))

-- the next of a list
next : {X : Type 0} (xs : List X) (i : ℕ) (x : X) → i < length xs → x ≡ get_or xs i x → drop i xs ≡ x ∷ drop (i + 1) xs
next xs i x h is = drop-cons xs i x h ∙ (ap (λ y. y ∷ drop (suc i) xs) (sym is) ∙ ap (λ n. x ∷ drop n xs) (sym (add-one i)))

onto : (text new piece rest whole all : List ℕ) → all ≡ piece ++ rest → new ≡ text ++ piece → text ++ all ≡ whole → new ++ rest ≡ whole
onto text new piece rest whole all cut is h = rw is (append_assoc text piece rest ∙ (ap (λ l. text ++ l) (sym cut) ∙ h))

-- one more part
pub one_part : (ps : List Part) (i : ℕ) (p : Part) (vs : Values) (text new whole : List ℕ) → i < length ps → p ≡ get_or ps i p
    → new ≡ text ++ part_text (part_view p) vs → text ++ parts_text (parts_view (drop i ps)) vs ≡ whole
    → new ++ parts_text (parts_view (drop (i + 1) ps)) vs ≡ whole
unfolding parts_text
one_part ps i p vs text new whole h is wrote before =
    onto text new (part_text (part_view p) vs) (parts_text (parts_view (drop (i + 1) ps)) vs) whole _
    (ap (λ l. parts_text (parts_view l) vs) (next ps i p h is)) wrote before

-- no more parts
pub no_part : (ps : List Part) (i : ℕ) (vs : Values) (text whole : List ℕ) → length ps ≤ i → text ++ parts_text (parts_view (drop i ps)) vs ≡ whole
    → text ≡ whole
unfolding parts_text
no_part ps i vs text whole h is = sym (append-nil text) ∙ (ap (λ l. text ++ parts_text (parts_view l) vs) (sym (drop_of_length-le ps h)) ∙ is)

-- the texts of the items among values
abbrev pub each_text : Parts → List ℕ → List Value → List ℕ
each_text ps name vs = flat_map (parts_text ps) (items_of name (values_view vs))

-- one more value, which is an item
pub one_item : (ps : Parts) (name : List ℕ) (vs : List Value) (i : ℕ) (v : Value) (item : Values) (text new whole : List ℕ)
    → i < length vs → v ≡ get_or vs i v → item_in name (value_view v) ≡ Some item
    → new ≡ text ++ parts_text ps item → text ++ each_text ps name (drop i vs) ≡ whole → new ++ each_text ps name (drop (i + 1) vs) ≡ whole
one_item ps name vs i v item text new whole h is found wrote before =
    onto text new (parts_text ps item) (each_text ps name (drop (i + 1) vs)) whole _
    (ap (each_text ps name) (next vs i v h is)
    ∙ ap (λ o. flat_map (parts_text ps) (option_to_list o ++ items_of name (values_view (drop (i + 1) vs)))) found)
    wrote before

-- one more value, which is no item
pub no_item : (ps : Parts) (name : List ℕ) (vs : List Value) (i : ℕ) (v : Value) (text whole : List ℕ)
    → i < length vs → v ≡ get_or vs i v → item_in name (value_view v) ≡ None
    → text ++ each_text ps name (drop i vs) ≡ whole → text ++ each_text ps name (drop (i + 1) vs) ≡ whole
no_item ps name vs i v text whole h is found before =
    onto text text [] (each_text ps name (drop (i + 1) vs)) whole _
    (ap (each_text ps name) (next vs i v h is)
    ∙ ap (λ o. flat_map (parts_text ps) (option_to_list o ++ items_of name (values_view (drop (i + 1) vs)))) found)
    (sym (append-nil text)) before

-- no more values
pub no_value : (ps : Parts) (name : List ℕ) (vs : List Value) (i : ℕ) (text whole : List ℕ) → length vs ≤ i
    → text ++ each_text ps name (drop i vs) ≡ whole → text ≡ whole
no_value ps name vs i text whole h is = sym (append-nil text) ∙ (ap (λ l. text ++ each_text ps name l) (sym (drop_of_length-le vs h)) ∙ is)

-- parts for no items
pub some_items : (items : List Values) (text : List ℕ) → has_items items ≡ true → if_none items text ≡ []
some_items [] text e = cc
some_items (i ∷ items) text e = refl

pub no_items : (items : List Values) (text : List ℕ) → has_items items ≡ false → if_none items text ≡ text
no_items [] text e = refl
no_items (i ∷ items) text e = cc

-- the values as they are kept
pub text_value : (name : Bor (List ℕ)) (text : String Global) → value_view (value.Text name text) ≡ spec.TextValue name.now (string_bytes text)
text_value name text = ap value_view (sym (value.rolls-Text name text)) ∙ fold-roll-Value spec.ValueView value_step (Value-F.Text name text)

pub item_value : (name : Bor (List ℕ)) (values : Vec Value Global) → value_view (value.Item name values) ≡ spec.ItemValue name.now (values_view values.items)
item_value name values = ap value_view (sym (value.rolls-Item name values)) ∙ fold-roll-Value spec.ValueView value_step (Value-F.Item name values)
