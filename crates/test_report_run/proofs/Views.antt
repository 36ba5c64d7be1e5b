-- Maps, and the lists that are their views.
use Rattle.std.proofs.Common.{◌≡◌, List, [], ◌∷◌, ◌∙◌, Bool, true, false, cond, map, option_map, Some, Option, Ordering, refl, ap, sym}
use Rattle.std.specs.BTreeMap.{insert_entry}
use Rattle.std.specs.Map.{lookup}
use Rattle.std.specs.Ordering.{match_ordering}
use Rattle.std.specs.declared.cmp.Ordering.TheVariants.{Less, Equal, Greater}

-- the view of an entry: that of its key, and that of its value
abbrev pub entry_view : {K L X Y : Type 0} → (K → L) → (X → Y) → K × X → L × Y
entry_view f g e = (f e.0, g e.1)

lookup-step : {X Y : Type 0} (g : X → Y) (b : Bool) (x : X) (rest : Option X) (seen : Option Y) → seen ≡ option_map g rest
    → cond b (Some (g x)) seen ≡ option_map g (cond b (Some x) rest)
lookup-step g true x rest seen same = refl
lookup-step g false x rest seen same = same

-- a key is found at the same entry in the view
pub lookup-view : {K L X Y : Type 0} (f : K → L) (g : X → Y) (test : K → Bool) (seen : L → Bool) → ((k : K) → test k ≡ seen (f k)) → (es : List (K × X))
    → lookup seen (map (entry_view f g) es) ≡ option_map g (lookup test es)
lookup-view f g test seen same [] = refl
lookup-view f g test seen same (e ∷ es) =
    ap (λ b. cond b (Some (g e.1)) (lookup seen (map (entry_view f g) es))) (sym (same e.0))
    ∙ lookup-step g (test e.0) e.1 (lookup test es) (lookup seen (map (entry_view f g) es)) (lookup-view f g test seen same es)

insert-step : {A B : Type 0} (v : A → B) (o : Ordering) (a b c : List A) (seen : List B) → map v c ≡ seen
    → map v (match_ordering o a b c) ≡ match_ordering o (map v a) (map v b) seen
insert-step v Less a b c seen same = refl
insert-step v Equal a b c seen same = refl
insert-step v Greater a b c seen same = same

-- the view with one more entry
pub insert_entry-view : {K L X Y : Type 0} (f : K → L) (g : X → Y) (R : K → K → Ordering) (S : L → L → Ordering) → ((a b : K) → R a b ≡ S (f a) (f b))
    → (es : List (K × X)) (k : K) (x : X) → map (entry_view f g) (insert_entry R es k x) ≡ insert_entry S (map (entry_view f g) es) (f k) (g x)
insert_entry-view f g R S same [] k x = refl
insert_entry-view f g R S same (e ∷ es) k x =
    let seen = map (entry_view f g) es in
    insert-step (entry_view f g) (R k e.0) ((k, x) ∷ e ∷ es) ((e.0, x) ∷ es) (e ∷ insert_entry R es k x) (entry_view f g e ∷ insert_entry S seen (f k) (g x))
    (ap (λ rest. entry_view f g e ∷ rest) (insert_entry-view f g R S same es k x))
    ∙ ap (λ o. match_ordering o ((f k, g x) ∷ entry_view f g e ∷ seen) ((f e.0, g x) ∷ seen) (entry_view f g e ∷ insert_entry S seen (f k) (g x))) (same k e.0)
