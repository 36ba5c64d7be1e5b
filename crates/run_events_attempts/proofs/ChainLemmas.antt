-- Error chains as JSON: the value that is written for a chain, and the chain that is read from it.
use Rattle.std.proofs.Common.{String, Global, string_bytes, Option, append-nil, ◌≡◌, ◌≤◌, ◌<◌, ◌++◌, take, length, get_or, ◌⊎◌, Ordering, ℕ, ◌+◌, max, Bool, true, cond, Result, Ok, List, [], ◌∷◌, map, codes, None, Some, IsSome, is_some, not, position, unwrap_or, refl, sym, ap, subst, ◌∙◌, inl, inr, true≢false, arith}
use Rattle.std.specs.Ordering.{nat_cmp, match_ordering}
use Rattle.std.specs.declared.cmp.Ordering.TheVariants.{Equal}
use Rattle.std.specs.Cmp.Lexicographic.{slice_cmp}
use Rattle.std.specs.List.{cons_option, position_from}
use Rattle.std.proofs.lemmas.Iterator.Adapters.{position_from-zero}
use Rattle.std.proofs.lemmas.List.{map-append, take_more}
use Rattle.std.proofs.lemmas.List.Elements.{filter_map-append}
use Rattle.std.proofs.lemmas.Map.Lookups.{exact_bytes}
use Rattle.serde_json.specs.Data.{Data, depth, items_depth, string, object, Members, no_members, member}
use Rattle.serde_json.specs.Find.{as_object, as_str, get, get_member}
use Rattle.serde_json.specs.View.{items_of, view}
use Rattle.serde_json.specs.declared.value.Value.{Value}
use Rattle.run_events_attempts.specs.ChainObject.{chain_object, texts_of}
use Rattle.run_events_attempts.specs.ChainReading.{IsChainUnlessMemory, ReadsAs, read_causes, read_chain, read_texts, values_in}
use Rattle.run_events_attempts.specs.ChainValue.{IsChainValue, text_list}
use Rattle.run_events_attempts.specs.ErrorChain.{ErrorChain, cause_chains}
use Rattle.run_events_attempts.specs.declared.chain.json.FromValueError.{FromValueError}

-- the messages of the chains that begin with each cause are the causes
pub messages_of_cause_chains : (cs : List (List ℕ)) → map (λ (e : ErrorChain). string e.message) (cause_chains cs) ≡ map string cs
messages_of_cause_chains [] = refl
messages_of_cause_chains (c ∷ cs) = ap (λ ds. string c ∷ ds) (messages_of_cause_chains cs)

pub values_in_items_of : (ds : List Data) → values_in (items_of ds) ≡ ds
values_in_items_of [] = refl
values_in_items_of (d ∷ ds) = ap (λ xs. d ∷ xs) (values_in_items_of ds)

-- whether a value is not a text
abbrev is_no_text : Data → Bool
is_no_text d = not (is_some (as_str d))

position_from_view : (i : ℕ) (vs : List Value) → position_from is_no_text i (map view vs) ≡ position_from (λ v. is_no_text (view v)) i vs
position_from_view i [] = refl
position_from_view i (v ∷ vs) = ap (λ o. cond (is_no_text (view v)) (Some i) o) (position_from_view (i + 1) vs)

-- the position of the first value whose data is not a text
pub position_of_view : (vs : List Value) → position (λ v. not (is_some (as_str (view v)))) vs ≡ position is_no_text (map view vs)
position_of_view vs = position_from-zero (λ v. is_no_text (view v)) vs ∙ sym (position_from_view 0 vs) ∙ sym (position_from-zero is_no_text (map view vs))

-- if every value is a text, the texts of the data of values are the texts among the values
texts_if_all : (vs : List Value) (i : ℕ) → position_from is_no_text i (map view vs) ≡ None
    → map (λ d. unwrap_or (as_str d) []) (map view vs) ≡ texts_of vs
texts_if_all [] i none = refl
texts_if_all (v ∷ vs) i none =
    elim (as_str (view v)) as (λ o. cond (not (is_some o)) (Some i) (position_from is_no_text (i + 1) (map view vs)) ≡ None
    → unwrap_or o [] ∷ map (λ d. unwrap_or (as_str d) []) (map view vs) ≡ cons_option o (texts_of vs)) [
      | None ↦ λ some. absurd (true≢false (ap is_some some))
      | Some t ↦ λ rest. ap (λ ts. t ∷ ts) (texts_if_all vs (i + 1) rest)
    ] none

-- the reading of values that are all texts
pub reads_all : (vs : List Value) → None ≡ position (λ v. not (is_some (as_str (view v)))) vs → read_texts (map view vs) ≡ Ok (texts_of vs)
reads_all vs none =
    let same : position is_no_text (map view vs) ≡ None = sym (position_of_view vs) ∙ sym none in
    rw (same, texts_if_all vs 0 (sym (position_from-zero is_no_text (map view vs)) ∙ same)) refl

-- the texts among the first i + 1 values are those among the first i, and then value i if it is a text
pub texts_of_more : (vs : List Value) (i : ℕ) (v : Value) → i < length vs → v ≡ get_or vs i v
    → texts_of (take (i + 1) vs) ≡ texts_of (take i vs) ++ cons_option (as_str (view v)) []
texts_of_more vs i v within is =
    ap texts_of (take_more vs i v within) ∙ filter_map-append (λ u. as_str (view u)) (take i vs) (get_or vs i v ∷ [])
    ∙ ap (λ u. texts_of (take i vs) ++ cons_option (as_str (view u)) []) (sym is)

-- a text that is pushed is the next one
pub text_pushed : (pushed : List (String Global)) (text : String Global) (before all : List (List ℕ)) (o : Option (List ℕ))
    → map string_bytes pushed ≡ before → Some (string_bytes text) ≡ o → all ≡ before ++ cons_option o [] → map string_bytes (pushed ++ text ∷ []) ≡ all
text_pushed pushed text before all o so_far some is =
    map-append string_bytes pushed (text ∷ []) ∙ ap (λ ts. ts ++ string_bytes text ∷ []) so_far ∙ ap (λ found. before ++ cons_option found []) some ∙ sym is

-- a value that is not a text adds none
pub no_text_pushed : (before all : List (List ℕ)) (o : Option (List ℕ)) → None ≡ o → all ≡ before ++ cons_option o [] → before ≡ all
no_text_pushed before all o none is = sym (is ∙ ap (λ found. before ++ cons_option found []) (sym none) ∙ append-nil before)

all_are_texts : (cs : List (List ℕ)) (i : ℕ) → position_from is_no_text i (map string cs) ≡ None
all_are_texts [] i = refl
all_are_texts (c ∷ cs) i = all_are_texts cs (i + 1)

own_texts : (cs : List (List ℕ)) → map (λ d. unwrap_or (as_str d) []) (map string cs) ≡ cs
own_texts [] = refl
own_texts (c ∷ cs) = ap (λ ts. c ∷ ts) (own_texts cs)

read_texts-string : (cs : List (List ℕ)) → read_texts (map string cs) ≡ Ok cs
read_texts-string cs = rw (position_from-zero is_no_text (map string cs), all_are_texts cs 0, own_texts cs) refl

read_causes-text_list : (cs : List (List ℕ)) → read_causes (Some (text_list cs)) ≡ Ok cs
read_causes-text_list cs = ap read_texts (values_in_items_of (map string cs)) ∙ read_texts-string cs

-- a value that has a member is an object
has_members : (d : Data) (key : List ℕ) → IsSome (get key d) → is_some (as_object d) ≡ true
has_members (object ms) key h = refl
has_members _ key h = h

-- the value of a chain is read as that chain
read_chain-of_value : (d : Data) (c : ErrorChain) → IsChainValue d c → read_chain d ≡ Ok c
read_chain-of_value d c h = rw (has_members d (codes "message") (ap is_some h.message), h.message, h.causes, read_causes-text_list c.causes) refl

pub reads_back_from_reads : (d : Data) (c : ErrorChain) (answer : Result ErrorChain FromValueError) → IsChainValue d c → ReadsAs (read_chain d) answer
    → IsChainUnlessMemory c answer
reads_back_from_reads d c answer h reads = rw (read_chain-of_value d c h) at reads

-- a key at which one member comes before others is that of the member, or is among the others
found_first : (key name : List ℕ) (d : Data) (ms : Members) (r : Ordering) → r ≡ slice_cmp nat_cmp key name
    → IsSome (match_ordering r (get_member key ms) (Some d) (get_member key ms)) → (key ≡ name) ⊎ IsSome (get_member key ms)
found_first key name d ms Equal e h = inl (exact_bytes key name (sym e))
found_first key name d ms _ e h = inr h

only_members : (c : ErrorChain) (key : List ℕ) → IsSome (get key (chain_object c)) → (key ≡ codes "message") ⊎ (key ≡ codes "causes")
only_members c key h =
    elim (found_first key (codes "causes") (text_list c.causes) (member (codes "message") (string c.message) no_members)
    (slice_cmp nat_cmp key (codes "causes")) refl h) [
      | inl same ↦ inr same
      | inr other ↦ elim (found_first key (codes "message") (string c.message) no_members (slice_cmp nat_cmp key (codes "message")) refl other) [
        | inl same ↦ inl same
        | inr none ↦ absurd (true≢false (sym none))
      ]
    ]

is_chain_value : (c : ErrorChain) → IsChainValue (chain_object c) c
is_chain_value c = record { message = refl; causes = refl; only = only_members c }

-- the object that is written for a chain is a value of that chain
pub is_chain_value_from_object : (d : Data) (c : ErrorChain) → d ≡ chain_object c → IsChainValue d c
is_chain_value_from_object d c e = subst (λ x. IsChainValue x c) (sym e) (is_chain_value c)

-- texts have no nesting
flat : (cs : List (List ℕ)) → items_depth (items_of (map string cs)) ≡ 0
flat [] = refl
flat (c ∷ cs) = ap (max 0) (flat cs)

-- the object that is written for a chain is nested no deeper than its list of causes
pub nests_from_object : (d : Data) (c : ErrorChain) → d ≡ chain_object c → depth d ≤ 2
nests_from_object d c e = let list = flat c.causes in rw (e, list) (omega arith)

-- and it is read as that chain
pub reads_from_object : (d : Data) (c : ErrorChain) → d ≡ chain_object c → read_chain d ≡ Ok c
reads_from_object d c e = read_chain-of_value d c (is_chain_value_from_object d c e)
