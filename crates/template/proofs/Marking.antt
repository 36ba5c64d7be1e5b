-- Values have no marks of Markdown in their places.
use Rattle.std.proofs.Common.{◌⊎◌, inl, inr, ◌≡◌, ◌∙◌, ◌<◌, ◌≤◌, ◌&&◌, ◌||◌, not, ◌==◌, ◌/◌, ◌%◌, refl, sym, subst, ap, arith, ℕ, zero, suc, Bool, true, false, List, [], ◌∷◌, ◌++◌, append_assoc, codes, if◌then◌else◌, nat_lt}
use Rattle.std.proofs.Math.Logic.{⊎_elim}
use Rattle.std.proofs.lemmas.Bool.{and_parts, or_parts, false≢true}
use Rattle.std.proofs.lemmas.Bool.Decides.{nat_tests}
use Rattle.std.proofs.lemmas.Str.{encode_ascii}
use Rattle.std.specs.Char.{encode_utf8, is_ascii_punctuation}
use Rattle.std.specs.Fmt.{decimal, digit_glyph, digits, digits_onto}
use Rattle.std.specs.List.{flat_map, fold}
use Rattle.std.specs.Str.{chars}
use Rattle.template.proofs.Written.{Highs, past-ascii}
use Rattle.template.specs.Hole.{hole_text, is_harmless, is_inner, is_special, is_syntax, is_word, markup, markup_byte, plain, plain_char, plain_chars, reference}
use Rattle.template.specs.Laws.{NoValueIsMark}
use Rattle.template.specs.Marks.{begins_alone, InPre, Tag, TagInPre, Marking, Outside, Reference, are_placed, is_mark, is_markdown, is_place, is_placed, mark_step, marking_after, marking_after_all, marks, marks_from, own_marks, same_marking, without_hole, without_holes}
use Rattle.template.specs.Shown.{shown}
use Rattle.template.specs.Template.{EachPart, HolePart, NoParts, NonePart, OnePart, PartView, Parts, TextPart, Values, if_none, items_of, part_text, parts_text, text_of}
use Rattle.template.specs.declared.hole.Hole.{Hole}
use Rattle.template.specs.declared.hole.Hole.TheVariants as hole

abbrev run : Marking → List ℕ → Marking
run = fold mark_step

-- the last byte of a text after this one
abbrev last : ℕ → List ℕ → ℕ
last before [] = before
last before (c ∷ text) = last c text

run-append : (s : Marking) (a b : List ℕ) → run s (a ++ b) ≡ run (run s a) b
run-append s [] b = refl
run-append s (c ∷ a) b = run-append (mark_step s c) a b

marks-append : (s : Marking) (p : ℕ) (a b : List ℕ) → marks_from s p (a ++ b) ≡ marks_from s p a ++ marks_from (run s a) (last p a) b
marks-append s p [] b = refl
marks-append s p (c ∷ a) b =
    let own = if is_mark s p c then c ∷ [] else [] in
    ap (λ l. own ++ l) (marks-append (mark_step s c) c a b)
    ∙ sym (append_assoc own (marks_from (mark_step s c) c a) (marks_from (run (mark_step s c) a) (last c a) b))

-- a text without marks, from one state to another and after this byte
record QuietAfter (s : Marking) (p : ℕ) (text : List ℕ) (t : Marking) : Type 0 where
  pub after : run s text ≡ t
  pub none : marks_from s p text ≡ []

nothing-after : {s : Marking} {p : ℕ} → QuietAfter s p [] s
nothing-after = record { after = refl; none = refl }

also-after : {s t u : Marking} {p : ℕ} {a b : List ℕ} → QuietAfter s p a t → QuietAfter t (last p a) b u → QuietAfter s p (a ++ b) u
also-after {s} {t} {u} {p} {a} {b} x y = record {
  after = run-append s a b ∙ (ap (λ r. run r b) x.after ∙ y.after);
  none =
      marks-append s p a b ∙ (ap (λ l. l ++ marks_from (run s a) (last p a) b) x.none ∙ (ap (λ r. marks_from r (last p a) b) x.after ∙ y.none));
}

-- the same after any byte
abbrev Quiet : Marking → List ℕ → Marking → Type 0
Quiet s text t = (p : ℕ) → QuietAfter s p text t

nothing : {s : Marking} → Quiet s [] s
nothing p = nothing-after

also : {s t u : Marking} {a b : List ℕ} → Quiet s a t → Quiet t b u → Quiet s (a ++ b) u
also {s} {t} {u} {a} {b} x y p = also-after {a = a} (x p) (y (last p a))

quiet-byte : (s : Marking) (b : ℕ) → ((p : ℕ) → is_mark s p b ≡ false) → mark_step s b ≡ s → Quiet s (b ∷ []) s
quiet-byte s b unmarked stays p = let e = unmarked p in record { after = stays; none = rw e refl }

quiet-more : (s : Marking) (b : ℕ) (bs : List ℕ) → Quiet s (b ∷ []) s → Quiet s bs s → Quiet s (b ∷ bs) s
quiet-more s b bs x y = also {a = b ∷ []} x y

quiet-if : {s : Marking} (t : Bool) {xs ys : List ℕ} → Quiet s xs s → Quiet s ys s → Quiet s (if t then xs else ys) s
quiet-if true x y = x
quiet-if false x y = y

quiet-each : {s : Marking} (f : ℕ → List ℕ) → ((b : ℕ) → Quiet s (f b) s) → (bs : List ℕ) → Quiet s (flat_map f bs) s
quiet-each f h [] = nothing
quiet-each f h (b ∷ bs) = also (h b) (quiet-each f h bs)

-- in a reference
glyph : (d : ℕ) → d < 10 → (digit_glyph false d == 59) ≡ false
glyph d h = let low : nat_lt d 10 ≡ true = grind (arith, nat_tests) in grind (arith, nat_tests, low)

in-reference : (b : ℕ) → (b == 59) ≡ false → Quiet Reference (b ∷ []) Reference
in-reference b stays = quiet-byte Reference b (λ _. refl) (rw stays refl)

quiet-digits : (k n : ℕ) (acc : List ℕ) → Quiet Reference acc Reference → Quiet Reference (digits_onto k 10 false n acc) Reference
quiet-digits zero n acc h = h
quiet-digits (suc k) n acc h =
    let longer = digit_glyph false (n % 10) ∷ acc in
    let more = quiet-more Reference (digit_glyph false (n % 10)) acc (in-reference (digit_glyph false (n % 10)) (glyph (n % 10) (omega arith))) h in
    quiet-if (n / 10 == 0) {xs = longer} more (quiet-digits k (n / 10) longer more)

quiet-decimal : (n : ℕ) → Quiet Reference (decimal n) Reference
unfolding digits
quiet-decimal n = quiet-digits 64 n [] nothing

quiet-reference : (c : ℕ) → Quiet Outside (reference c) Outside
quiet-reference c =
    let front : Quiet Outside (codes "&#") Reference = λ _. record { after = refl; none = refl } in
    let end : Quiet Reference (codes ";") Outside = λ _. record { after = refl; none = refl } in
    also front (also (quiet-decimal c) end)

-- outside of `<pre>`
unmarked-high : (b p : ℕ) → 128 ≤ b → is_mark Outside p b ≡ false
unmarked-high b p h = let none : is_ascii_punctuation b ≡ false = grind (arith, nat_tests, h) in rw none grind (arith, nat_tests, h)

quiet-high : (bs : List ℕ) → Highs bs → Quiet Outside bs Outside
quiet-high [] h = nothing
quiet-high (b ∷ bs) h =
    let low = h.0 in
    quiet-more Outside b bs (quiet-byte Outside b (λ p. unmarked-high b p low) (grind (arith, nat_tests, low))) (quiet-high bs h.1)

-- a value is written as if it were after the byte `p`, and is after `q`: the same byte, or any byte if `p` is neither a letter nor a digit
abbrev Agree : ℕ → ℕ → Type 0
Agree p q = (is_word p ≡ false) ⊎ (p ≡ q)

no-inner : (p c : ℕ) → is_word p ≡ false → is_inner p c ≡ false
no-inner p c h = grind (arith, nat_tests, h)

special-none : (p q c : ℕ) → Agree p q → is_special p c ≡ false → is_special q c ≡ false
special-none p q c agree h = ⊎_elim
    (λ other.
    let inner = no-inner p c other in
    elim (is_ascii_punctuation c) as (λ t. (t && not (is_harmless c || is_inner p c)) ≡ false → (t && not (is_harmless c || is_inner q c)) ≡ false) [
      | true ↦ λ e.
          elim (is_harmless c) as (λ t. not (t || is_inner p c) ≡ false → not (t || is_inner q c) ≡ false)
          [ true ↦ λ _. refl | false ↦ λ e. absurd (false≢true (sym (sym (ap not inner) ∙ e))) ] e
      | false ↦ λ _. refl
    ] h)
    (λ same. ap (λ x. is_special x c) (sym same) ∙ h)
    agree

special-at : (p c d : ℕ) → (c == d) ≡ true → is_special p d ≡ true → is_special p c ≡ true
special-at p c d e h = let same : c ≡ d = grind (arith, nat_tests, e) in ap (is_special p) same ∙ h

word-plain : (p c : ℕ) → is_word c ≡ true → is_syntax p c ≡ false
word-plain p c h =
    let none : is_ascii_punctuation c ≡ false = grind (arith, nat_tests, h) in
    let nine : (c == 9) ≡ false = grind (arith, nat_tests, h) in
    let ten : (c == 10) ≡ false = grind (arith, nat_tests, h) in
    let space : (c == 32) ≡ false = grind (arith, nat_tests, h) in
    rw none (rw nine (rw ten (rw space refl)))

unmarked : (p q c : ℕ) → Agree p q → is_syntax p c ≡ false → is_mark Outside q c ≡ false
unmarked p q c agree h =
    let own : is_special p c ≡ false = (or_parts _ _ h).0 in
    let none = special-none p q c agree own in
    let feed : (c == 10) ≡ false = (or_parts _ _ (or_parts _ _ (or_parts _ _ h).1).1).0 in
    rw none (rw feed refl)

stays-outside : (p c : ℕ) → is_syntax p c ≡ false → mark_step Outside c ≡ Outside
stays-outside p c h =
    let own : is_special p c ≡ false = (or_parts _ _ h).0 in
    elim (c == 38) as (λ t. (c == 38) ≡ t → (if t then Reference else if c == 60 then Tag [] else Outside) ≡ Outside) [
      | true ↦ λ e. absurd (false≢true (sym own ∙ special-at p c 38 e refl))
      | false ↦ λ e.
          elim (c == 60) as (λ t. (c == 60) ≡ t → (if t then Tag [] else Outside) ≡ Outside) [
            | true ↦ λ e. absurd (false≢true (sym own ∙ special-at p c 60 e refl))
            | false ↦ λ e. refl
          ] refl
    ] refl

quiet-char : (p q c : ℕ) → Agree p q → is_syntax p c ≡ false → QuietAfter Outside q (encode_utf8 c) Outside
quiet-char p q c agree plain =
    elim (nat_lt c 128) as (λ t. nat_lt c 128 ≡ t → QuietAfter Outside q (encode_utf8 c) Outside) [
      | true ↦ λ e.
          let small : c < 128 = grind (arith, nat_tests, e) in
          let none = unmarked p q c agree plain in
          subst (λ bs. QuietAfter Outside q bs Outside) (sym (encode_ascii c small))
          (record { after = stays-outside p c plain; none = rw none refl })
      | false ↦ λ e. quiet-high (encode_utf8 c) (past-ascii c (grind (arith, nat_tests, e))) q
    ] refl

quiet-plain_char : (p q c : ℕ) → Agree p q → QuietAfter Outside q (plain_char p c) Outside
quiet-plain_char p q c agree =
    elim (is_syntax p c) as (λ t. is_syntax p c ≡ t → QuietAfter Outside q (if t then reference c else encode_utf8 c) Outside)
    [ true ↦ λ e. quiet-reference c q | false ↦ λ e. quiet-char p q c agree e ] refl

agree-after : (p q c : ℕ) → Agree c (last q (plain_char p c))
agree-after p q c =
    elim (is_word c) as (λ t. is_word c ≡ t → Agree c (last q (plain_char p c))) [
      | true ↦ λ e.
          let small : c < 128 = grind (arith, nat_tests, e) in
          let plain : is_syntax p c ≡ false = word-plain p c e in
          inr (sym (ap (λ t. last q (if t then reference c else encode_utf8 c)) plain ∙ ap (last q) (encode_ascii c small)))
      | false ↦ λ e. inl e
    ] refl

quiet-plain_chars : (p q : ℕ) (cs : List ℕ) → Agree p q → QuietAfter Outside q (plain_chars p cs) Outside
quiet-plain_chars p q [] agree = nothing-after
quiet-plain_chars p q (c ∷ cs) agree =
    also-after {a = plain_char p c} (quiet-plain_char p q c agree) (quiet-plain_chars c (last q (plain_char p c)) cs (agree-after p q c))

-- in `<pre>`
word : (bs : List ℕ) → run InPre bs ≡ InPre → ((p : ℕ) → marks_from InPre p bs ≡ []) → Quiet InPre bs InPre
word bs after none p = record { after = after; none = none p }

quiet-markup : (b : ℕ) → Quiet InPre (markup_byte false b) InPre
quiet-markup b =
    let other = λ (e : (b == 60) ≡ false).
    quiet-if (b == 62) (word (codes "&gt;") refl (λ _. refl))
    (quiet-if (b == 13) (word (codes "&#13;") refl (λ _. refl)) (quiet-byte InPre b (λ _. e) (rw e refl))) in
    quiet-if (b == 38) (word (codes "&amp;") refl (λ _. refl))
    (elim (b == 60) as (λ t. (b == 60) ≡ t
    → Quiet InPre (if t then codes "&lt;" else if b == 62 then codes "&gt;" else if b == 13 then codes "&#13;" else b ∷ []) InPre)
    [ true ↦ λ e. word (codes "&lt;") refl (λ _. refl) | false ↦ other ] refl)

-- a value in its place
quiet-hole : (kind : Hole) (s : Marking) (text : List ℕ) → is_place kind s ≡ true → Quiet s (hole_text kind text) s
unfolding hole_text markup plain
quiet-hole hole.Plain Outside text h = λ p. quiet-plain_chars 32 p (chars (shown text)) (inl refl)
quiet-hole hole.Text InPre text h = quiet-each (markup_byte false) quiet-markup (shown text)
quiet-hole _ _ text h = absurd (false≢true h)

-- a section ends in the state in which it begins
same-ends : (s t : Marking) → same_marking s t ≡ true → s ≡ t
same-ends Outside Outside h = refl
same-ends InPre InPre h = refl
same-ends _ _ h = absurd (false≢true h)

-- from one state to another, a text has the marks of another text, whatever is before each of them
record Reads (s : Marking) (text own : List ℕ) (t : Marking) : Type 0 where
  pub after : run s text ≡ t
  after_own : run s own ≡ t
  pub same : (p q : ℕ) → marks_from s p text ≡ marks_from s q own

nothing-read : {s : Marking} → Reads s [] [] s
nothing-read = record { after = refl; after_own = refl; same = λ _ _. refl }

also-reads : {s t u : Marking} {a own b rest : List ℕ} → Reads s a own t → Reads t b rest u → Reads s (a ++ b) (own ++ rest) u
also-reads {s} {t} {u} {a} {own} {b} {rest} x y = record {
  after = run-append s a b ∙ (ap (λ r. run r b) x.after ∙ y.after);
  after_own = run-append s own rest ∙ (ap (λ r. run r rest) x.after_own ∙ y.after_own);
  same = λ p q.
      marks-append s p a b ∙ (ap (λ l. l ++ marks_from (run s a) (last p a) b) (x.same p q)
      ∙ (ap (λ r. marks_from s q own ++ marks_from r (last p a) b) x.after ∙ (ap (λ l. marks_from s q own ++ l) (y.same (last p a) (last q own))
      ∙ (ap (λ r. marks_from s q own ++ marks_from r (last q own) rest) (sym x.after_own) ∙ sym (marks-append s q own rest)))));
}

-- the first byte of an own text
alone-inner : (p c : ℕ) → not (c == 46 || (c == 47 || c == 95)) ≡ true → is_inner p c ≡ false
alone-inner p c h =
    let point : (c == 46) ≡ false = grind (arith, nat_tests, h) in
    let slash : (c == 47) ≡ false = grind (arith, nat_tests, h) in
    let line : (c == 95) ≡ false = grind (arith, nat_tests, h) in
    rw point (rw slash (rw line refl))

alone-mark : (s : Marking) (p q c : ℕ) → not (c == 46 || (c == 47 || c == 95)) ≡ true → is_mark s p c ≡ is_mark s q c
alone-mark Outside p q c h =
    ap (λ t. c == 10 || ((is_ascii_punctuation c && not (is_harmless c || t)) && not (c == 38))) (alone-inner p c h ∙ sym (alone-inner q c h))
alone-mark Reference p q c h = refl
alone-mark (Tag name) p q c h = refl
alone-mark InPre p q c h = refl
alone-mark (TagInPre name) p q c h = refl

own-reads : (s : Marking) (text : List ℕ) → begins_alone text ≡ true → (p q : ℕ) → marks_from s p text ≡ marks_from s q text
own-reads s [] h p q = refl
own-reads s (c ∷ text) h p q = ap (λ t. (if t then c ∷ [] else []) ++ marks_from (mark_step s c) c text) (alone-mark s p q c h)

each-reads : (f g : Values → List ℕ) (s : Marking) → ((i : Values) → Reads s (f i) (g i) s) → (items : List Values)
    → Reads s (flat_map f items) (flat_map g items) s
each-reads f g s h [] = nothing-read
each-reads f g s h (i ∷ items) = also-reads (h i) (each-reads f g s h items)

none-reads : {s : Marking} {text own : List ℕ} (items : List Values) → Reads s text own s → Reads s (if_none items text) (if_none items own) s
none-reads [] h = h
none-reads (i ∷ items) h = nothing-read

-- the parts of a section, after which the state is as before
closed : (s : Marking) (ps : Parts) {text own : List ℕ} → same_marking (marking_after_all s ps) s ≡ true → Reads s text own (marking_after_all s ps)
    → Reads s text own s
closed s ps {text} {own} h = subst (Reads s text own) (same-ends (marking_after_all s ps) s h)

mutual
  unfolding part_text parts_text

  part-reads : (p : PartView) (s : Marking) (vs : Values) → is_placed s p ≡ true
      → Reads s (part_text p vs) (part_text (without_hole p) vs) (marking_after s p)
  part-reads (TextPart text) s vs h = record { after = refl; after_own = refl; same = own-reads s text h }
  part-reads (HolePart kind name) s vs h =
      let quiet = quiet-hole kind s (text_of name vs) h in record { after = (quiet 10).after; after_own = refl; same = λ p _. (quiet p).none }
  part-reads (EachPart name ps) s vs h =
      let both = and_parts _ _ h in
      each-reads (parts_text ps) (parts_text (without_holes ps)) s (λ i. closed s ps both.1 (parts-reads ps s i both.0)) (items_of name vs)
  part-reads (NonePart name ps) s vs h =
      let both = and_parts _ _ h in none-reads (items_of name vs) (closed s ps both.1 (parts-reads ps s vs both.0))

  parts-reads : (ps : Parts) (s : Marking) (vs : Values) → are_placed s ps ≡ true
      → Reads s (parts_text ps vs) (parts_text (without_holes ps) vs) (marking_after_all s ps)
  parts-reads NoParts s vs h = nothing-read
  parts-reads (OnePart p ps) s vs h =
      let both = and_parts _ _ h in also-reads (part-reads p s vs both.0) (parts-reads ps (marking_after s p) vs both.1)

pub no_value_is_mark : NoValueIsMark
unfolding is_markdown marks own_marks
no_value_is_mark ps vs h = let both = and_parts _ _ h in (parts-reads ps Outside vs both.0).same 10 10
