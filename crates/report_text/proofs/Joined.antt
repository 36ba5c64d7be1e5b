-- Texts that are shown one after another.
use Rattle.std.proofs.Common.{◌≡◌, ◌∙◌, ◌&&◌, ◌||◌, ◌==◌, ◌⊎◌, inl, inr, refl, sym, subst, ap, ℕ, Bool, true, false, true≢false, not, List, [], ◌∷◌, ◌++◌, codes, if◌then◌else◌}
use Rattle.std.proofs.lemmas.Bool.{and_parts}
use Rattle.std.proofs.lemmas.List.Elements.{All-append, All-head, All-tail}
use Rattle.std.proofs.lemmas.List.Folds.{list_all-append}
use Rattle.std.specs.Char.{is_whitespace}
use Rattle.std.specs.List.{All, flat_map, list_all}
use Rattle.report_text.specs.Command.{IsCommand, commands}
use Rattle.report_text.specs.Line.{front_after, front_run, is_command, is_inline, is_shown}
use Rattle.report_text.specs.Safe.{Absent, IsQuiet, TextsJoin}
use Rattle.report_text.specs.Sequence.{IsClean, IsPiece, link_mark, visible}
use Rattle.report_text.specs.declared.line.Front.{Front}
use Rattle.report_text.specs.declared.line.Front.TheVariants.{White, Colon, Inside, Command}
use Rattle.report_text.proofs.Absence.{all-among}
use Rattle.report_text.proofs.Steps.{all-weaker, commands-append, front_run-append}
use Rattle.report_text.proofs.Visible.{IsWhole, clean-both, shown-whole, unseen-link, unseen-style, whole-both}

-- a clean text is whole
piece-whole : (piece : List ℕ) → IsPiece piece → IsWhole piece
piece-whole piece h = elim h [
  | inl w ↦ subst IsWhole (sym w.1) (shown-whole (w.0 ∷ []) (ap (λ b. b && true) w.2))
  | inr s ↦ elim s [
    | inl w ↦ subst IsWhole (sym w.is) (unseen-style w.parameters w.are).whole
    | inr w ↦
        let shown = all-weaker is_inline is_shown (λ c e. (and_parts (is_shown c) (not (c == 9 || c == 10)) e).0) w.label w.in_line in
        subst IsWhole (sym w.is) (whole-both (link_mark w.target) (w.label ++ link_mark []) (unseen-link w.target w.encoded).whole
        (whole-both w.label (link_mark []) (shown-whole w.label shown) (unseen-link [] refl).whole))
  ]
]

pieces-whole : (pieces : List (List ℕ)) → All IsPiece pieces → IsWhole (flat_map (λ p. p) pieces)
pieces-whole [] h = λ more. refl
pieces-whole (p ∷ ps) h =
    whole-both p (flat_map (λ p. p) ps) (piece-whole p (All-head IsPiece p ps h)) (pieces-whole ps (All-tail IsPiece p ps h))

clean-whole : (text : List ℕ) → IsClean text → IsWhole text
clean-whole text c = subst IsWhole (sym c.is) (pieces-whole c.pieces c.each)

-- one list in two ways
abbrev Split : (xs ys us vs : List ℕ) → Type 0
Split xs ys us vs = ((m : List ℕ) × (us ≡ xs ++ m) × (ys ≡ m ++ vs)) ⊎ ((m : List ℕ) × (xs ≡ us ++ m) × (vs ≡ m ++ ys))

abbrev head-of : List ℕ → ℕ
head-of [] = 0
head-of (x ∷ xs) = x

abbrev tail-of : List ℕ → List ℕ
tail-of [] = []
tail-of (x ∷ xs) = xs

both : (x : ℕ) (xs ys us vs : List ℕ) → Split xs ys us vs → Split (x ∷ xs) ys (x ∷ us) vs
both x xs ys us vs s = elim s [
  | inl w ↦ inl (w.0, ap (λ l. x ∷ l) w.1, w.2)
  | inr w ↦ inr (w.0, ap (λ l. x ∷ l) w.1, w.2)
]

split : (xs ys us vs : List ℕ) → xs ++ ys ≡ us ++ vs → Split xs ys us vs
split [] ys us vs e = inl (us, refl, e)
split (x ∷ xs) ys [] vs e = inr (x ∷ xs, refl, sym e)
split (x ∷ xs) ys (u ∷ us) vs e =
    subst (λ h. Split (x ∷ xs) ys (h ∷ us) vs) (ap head-of e) (both x xs ys us vs (split xs ys us vs (ap tail-of e)))

-- a character after which a line has more than white space
abbrev is_solid : ℕ → Bool
is_solid c = not (is_whitespace c) && not (c == 10)

abbrev is_white : Front → Bool
is_white White = true
is_white Colon = false
is_white Inside = false
is_white Command = false

if-either : (b : Bool) (x y : Front) → is_white x ≡ false → is_white y ≡ false → is_white (if b then x else y) ≡ false
if-either true x y p q = p
if-either false x y p q = q

if-no : (b : Bool) (x y : Front) → not b ≡ true → is_white y ≡ false → is_white (if b then x else y) ≡ false
if-no true x y h q = absurd (true≢false (sym h))
if-no false x y h q = q

solid-step : (s : Front) (c : ℕ) → is_solid c ≡ true → is_white (front_after false s c) ≡ false
solid-step White c h =
    let parts = and_parts (not (is_whitespace c)) (not (c == 10)) h in
    if-no (c == 10) _ _ parts.1 (if-no (is_whitespace c) _ _ parts.0 (if-either (c == 58 && true) Colon Inside refl refl))
solid-step Colon c h = if-no (c == 10) _ _ (and_parts (not (is_whitespace c)) (not (c == 10)) h).1 (if-either (c == 58) Command Inside refl refl)
solid-step Inside c h = if-no (c == 10) _ _ (and_parts (not (is_whitespace c)) (not (c == 10)) h).1 refl
solid-step Command c h = if-no (c == 10) _ _ (and_parts (not (is_whitespace c)) (not (c == 10)) h).1 refl

solid-run : (s : Front) (x : ℕ) (xs : List ℕ) → list_all is_solid (x ∷ xs) ≡ true → is_white (front_run false s (x ∷ xs)) ≡ false
solid-run s x [] h = solid-step s x (and_parts (is_solid x) true h).0
solid-run s x (y ∷ ys) h = solid-run (front_after false s x) y ys (and_parts (is_solid x) (list_all is_solid (y ∷ ys)) h).1

no-seam : (a before m : List ℕ) → front_run false White a ≡ White → a ≡ before ++ m → list_all is_solid m ≡ true → m ≡ []
no-seam a before [] white e h = refl
no-seam a before (x ∷ xs) white e h =
    absurd (true≢false (ap is_white (sym white) ∙ (ap (λ l. is_white (front_run false White l)) e
    ∙ (ap is_white (front_run-append false White before (x ∷ xs)) ∙ solid-run (front_run false White before) x xs h))))

absent-joined : (a b word : List ℕ) → list_all is_solid word ≡ true → front_run false White a ≡ White → Absent word a → Absent word b → Absent word (a ++ b)
absent-joined a b word solid white in-a in-b = λ before after e.
    elim (split a b before (word ++ after) e) [
      | inl w ↦ in-b w.0 after w.2
      | inr w ↦ elim (split word after w.0 b w.2) [
        | inl k ↦ in-a before k.0 (w.1 ∙ ap (λ l. before ++ l) k.1)
        | inr k ↦
            let front = (and_parts (list_all is_solid w.0) (list_all is_solid k.0) (sym (list_all-append is_solid w.0 k.0) ∙ (ap (list_all is_solid) (sym
            k.1) ∙ solid))).0 in
            let none = no-seam a before w.0 white w.1 front in
            in-b [] after (k.2 ∙ ap (λ l. l ++ after) (sym (k.1 ∙ ap (λ l. l ++ k.0) none)))
      ]
    ]

quiet-joined : (a b : List ℕ) → front_run false White a ≡ White → IsQuiet a → IsQuiet b → IsQuiet (a ++ b)
quiet-joined a b white p q =
    let same = commands-append White a b (ap is_command white) ∙ ap (λ f. commands White a ++ commands f b) white in
    record {
      all_among = all-among (a ++ b);
      each = subst (All IsCommand) (sym same) (All-append IsCommand (commands White a) (commands White b) p.each q.each);
      no_github_marker = absent-joined a b (codes "##[") refl white p.no_github_marker q.no_github_marker;
      no_azure_marker = absent-joined a b (codes "##vso[") refl white p.no_azure_marker q.no_azure_marker;
      no_teamcity_marker = absent-joined a b (codes "##teamcity[") refl white p.no_teamcity_marker q.no_teamcity_marker;
    }

pub texts_join : TextsJoin
texts_join = λ t first second p blank q. record {
  clean = clean-both p.clean q.clean;
  quiet = λ e. subst IsQuiet (sym (clean-whole first p.clean second)) (quiet-joined (visible first) (visible second) (blank e) (p.quiet e) (q.quiet e));
}
