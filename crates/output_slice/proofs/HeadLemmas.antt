-- Tails and heads, and the results of the steps of the counted search.
use Rattle.output_slice.proofs.Words.{◌≡◌, ◌≢◌, ℕ, ◌+◌, ◌-◌, ◌<◌, ◌≤◌, ◌⊎◌, Bool, true, List, [], ◌∷◌, ◌++◌, length, get_or, refl, sym, ap, ◌∙◌, arith, inl, inr, length-append, append-nil, encode_utf8_all, codes, not, ◌==◌, ◌&&◌, All, Option, Some, None, IfSome, encode_utf8, list_all, IsScalar, inside_one, length-le-encodes, length-encode, len_utf8_bounds, All-head, All-tail, list_all-append, AllPass-from_list_all, list_all-from_AllPass, and_from, nat_tests, get_or_default, get_or_past, OccursAt, part, IsDigit, IsTail, IsName, IsHead, AreDigits, ArePlain, IsDigitRun, NoDigitAt, IsTailEnd, IsTextEnd, AgreesFor, ReadsUpTo, TextReads, IsUtf8, FewReads, HeadReadsTo, IsNamedHeadEnd, IsOpened, IsOpenedHeadEnd, IsNextQuote, NoQuoteBetween}
use Rattle.output_slice.proofs.CharLemmas.{IsDigitRun-same}
use Rattle.output_slice.proofs.OccursLemmas.{get_or-part, length-part, occurs-front, occurs-back, occurs-both, occurs-part, part-occurs, agrees, agrees-passes, text-passes}

-- the byte is neither a quote nor a line feed
abbrev is_plain : ℕ → Bool
is_plain x = not (x == 39) && not (x == 10)

-- no byte of a digit is a quote or a line feed
digit-plain : (c : ℕ) → IsDigit c → list_all is_plain (encode_utf8 c) ≡ true
digit-plain c digit = list_all-from_AllPass is_plain (encode_utf8 c) (λ k d low.
    let inside = inside_one c [] (encode_utf8 c) k (sym (append-nil (encode_utf8 c))) low in
    rw (get_or_default (encode_utf8 c) k d 0 low) (grind (arith, nat_tests)))

digits-plain : (cs : List ℕ) → All (λ c. IsScalar c × IsDigit c) cs → list_all is_plain (encode_utf8_all cs) ≡ true
digits-plain [] all = refl
digits-plain (c ∷ cs) all =
    let P = λ (x : ℕ). IsScalar x × IsDigit x in
    list_all-append is_plain (encode_utf8 c) (encode_utf8_all cs)
    ∙ and_from _ _ (digit-plain c (All-head P c cs all).1) (digits-plain cs (All-tail P c cs all))

-- no byte of a tail is one
pub tail-plain : (b : List ℕ) (at e : ℕ) → e ≤ length b → IsTail (part at e b) → ArePlain b at e
tail-plain b at e high h k low up =
    let plain : list_all is_plain (part at e b) ≡ true = elim h [
      | inl text ↦ ap (list_all is_plain) text
      | inr n ↦ simp (n.2, n.1.3, list_all-append, digits-plain n.1.0 n.1.2)
    ] in
    let test = AllPass-from_list_all is_plain (part at e b) plain (k - at) 0 (omega (arith, length-part b at e high)) in
    grind (arith, nat_tests, get_or-part)

-- nor is a byte of bytes that agree with such a text
agrees-plain : (b text : List ℕ) (at n : ℕ) → AgreesFor b text at n → list_all is_plain text ≡ true → ArePlain b at (at + n)
agrees-plain b text at n h all k low high = grind (arith, nat_tests, agrees-passes is_plain b text at n h all k low high)

-- nor is a byte of two parts without them
plain-join : (b : List ℕ) (i j k : ℕ) → ArePlain b i j → ArePlain b j k → ArePlain b i k
plain-join b i j k h l = grind arith

-- a numbered tail by offsets
pub record IsNumbered (b : List ℕ) (at e : ℕ) : Type 0 where
  pub close : ℕ
  pub opens : OccursAt b (codes " (") at
  pub run : IsDigitRun b (at + 2) close
  pub some : at + 2 < close
  pub closes : OccursAt b (codes ") panicked at ") close
  pub ends : e ≡ close + 14

-- no digit begins with `)`
NoDigitAt-paren : (b : List ℕ) (at : ℕ) → get_or b at 0 ≡ 41 → NoDigitAt b at
NoDigitAt-paren b at is c h digit = grind (arith, length-encode, len_utf8_bounds, inside_one c [] (encode_utf8 c) 0 (sym (append-nil (encode_utf8 c))))

-- a tail is plain or numbered
pub tail_cases : (b : List ℕ) (at e : ℕ) → e ≤ length b → IsTail (part at e b) → (OccursAt b (codes " panicked at ") at × (e ≡ at + 13)) ⊎ IsNumbered b at e
tail_cases b at e high h = elim h [
  | inl plain ↦ inl (part-occurs b (codes " panicked at ") at e plain high (omega arith))
  | inr n ↦
      let end = codes ") panicked at " in
      let all = part-occurs b (codes " (" ++ (n.0 ++ end)) at e n.2 high (omega arith) in
      let rest = occurs-back b (codes " (") (n.0 ++ end) at all.0 in
      let closes : OccursAt b end (at + 2 + length n.0) = occurs-back b n.0 end (at + 2) rest in
      let stands = rw n.1.3 at (occurs-front b n.0 end (at + 2) rest) in
      let digits : AreDigits b (at + 2) (at + 2 + length n.0) =
      record { chars = n.1.0; digits = n.1.2; stands = stands; ends = ap (λ t. at + 2 + length t) n.1.3 } in
      inr (record {
        close = at + 2 + length n.0;
        opens = occurs-front b (codes " (") (n.0 ++ end) at all.0;
        run = record { digits = digits; stops = NoDigitAt-paren b _ (grind (arith, closes.reads 0)) };
        some = omega (arith, length-le-encodes n.1.0, ap length n.1.3, n.1.1);
        closes = closes;
        ends = omega (arith, all.1, length-append n.0 end);
      })
]

-- a plain tail is not numbered
apart : (b : List ℕ) (at : ℕ) → OccursAt b (codes " panicked at ") at → OccursAt b (codes " (") at → ⊥
apart b at p q = omega (arith, p.reads 1 (omega arith), q.reads 1 (omega arith))

-- there is one tail at an offset
pub tail-same : (b : List ℕ) (at e e' : ℕ) → e ≤ length b → e' ≤ length b → IsTail (part at e b) → IsTail (part at e' b) → e ≡ e'
tail-same b at e e' high high' h k = elim (tail_cases b at e high h) [
  | inl p ↦ elim (tail_cases b at e' high' k) [ inl q ↦ p.1 ∙ sym q.1 | inr q ↦ absurd (apart b at p.0 q.opens) ]
  | inr p ↦ elim (tail_cases b at e' high' k) [
    | inl q ↦ absurd (apart b at q.0 p.opens)
    | inr q ↦ p.ends ∙ ap (λ i. i + 14) (IsDigitRun-same b (at + 2) p.close q.close p.run q.run) ∙ sym q.ends
  ]
]

-- without a space there is no tail
pub no-space : (b : List ℕ) (at old new : ℕ) → ¬ OccursAt b (codes " ") at → TextReads b (codes " ") at old new None
    → IsTailEnd b at None × ReadsUpTo b at old new None
no-space b at old new none r = (
  λ e high tail. elim (tail_cases b at e high tail) [
    | inl p ↦ none (occurs-front b (codes " ") (codes "panicked at ") at p.0)
    | inr q ↦ none (occurs-front b (codes " ") (codes "(") at q.opens)
  ],
  record {
    last = at;
    low = omega arith;
    high = omega (arith, r.2.fits);
    plain = λ k low up. absurd (omega arith);
    far = omega (arith, r.2);
    near = omega (arith, r.2);
    before = tt;
  },
)

-- nor without a digit between the parentheses
pub no-number : (b : List ℕ) (at close old mid new : ℕ) → OccursAt b (codes " (") at → IsDigitRun b (at + 2) close → close ≡ at + 2
    → mid ≤ old + 2 → new + (at + 2) ≤ mid + close + 4 → IsTailEnd b at None × ReadsUpTo b at old new None
no-number b at close old mid new opens run is few few' = (
  λ e high tail. elim (tail_cases b at e high tail) [
    | inl p ↦ apart b at p.0 opens
    | inr q ↦ omega (arith, q.some, IsDigitRun-same b (at + 2) close q.close run q.run)
  ],
  record {
    last = at + 2;
    low = omega arith;
    high = opens.fits;
    plain = agrees-plain b (codes " (") at 2 (agrees b (codes " (") at opens) refl;
    far = omega arith;
    near = omega arith;
    before = tt;
  },
)

-- how far a text is read, whether it is found or not
text-read : (b text : List ℕ) (at old new : ℕ) (found : Option ℕ) → TextReads b text at old new found → IsTextEnd b text at found
    → (k : ℕ) × AgreesFor b text at k × (new ≤ old + k + 1) × IfSome found (λ e. (e ≡ at + k) × (k ≡ length text) × (new ≤ old + k))
text-read b text at old new found r f = grind (arith, agrees)

-- the reads of such a text after plain bytes that took few reads
reads-up : (b text : List ℕ) (at from mid old new : ℕ) (found : Option ℕ) → list_all is_plain text ≡ true → ArePlain b at from → at ≤ from
    → 0 < length text → at + 13 ≤ from + length text → (mid + at ≤ old + from + 1) ⊎ ((at + 3 ≤ from) × (mid + at ≤ old + from + 4))
    → (get_or b from 0 ≡ get_or text 0 0 → mid + at ≤ old + from + 1) → TextReads b text from mid new found → IsTextEnd b text from found
    → ReadsUpTo b at old new found
reads-up b text at from mid old new found all plain low some size few first r f =
    let t = text-read b text from mid new found r f in
    let more = agrees-plain b text from t.0 t.1 all in
    let head = t.1.reads 0 in record {
      last = from + t.0;
      low = omega arith;
      high = t.1.fits;
      plain = λ k low up. let late = more k in grind arith;
      far = grind arith;
      near = grind arith;
      before = grind (arith, t.3);
    }

-- a plain tail in two parts: its end, and how far it is read
pub plain-end : (b : List ℕ) (at k old one two new : ℕ) (found : Option ℕ) → OccursAt b (codes " ") at
    → ¬ OccursAt b (codes "(") (at + 1) → one ≤ old + 1 → k < 1 → two ≤ one + k + 1
    → TextReads b (codes "panicked at ") (at + 1) two new found → IsTextEnd b (codes "panicked at ") (at + 1) found
    → IsTailEnd b at found × ReadsUpTo b at old new found
plain-end b at k old one two new found space none few first few' r f =
    let front = agrees-plain b (codes " ") at 1 (agrees b (codes " ") at space) refl in
    let reads = reads-up b (codes "panicked at ") at (at + 1) two old new found refl front (omega arith) (omega arith) (omega arith)
    (inl (omega arith)) (λ same. omega arith) r f in
    (ends found f, reads) where
      ends : (o : Option ℕ) → IsTextEnd b (codes "panicked at ") (at + 1) o → IsTailEnd b at o
      ends None f = λ e high tail. elim (tail_cases b at e high tail) [
        | inl p ↦ f (occurs-back b (codes " ") (codes "panicked at ") at p.0)
        | inr q ↦ none (occurs-back b (codes " ") (codes "(") at q.opens)
      ]
      ends (Some e) f =
          let whole = occurs-both b (codes " ") (codes "panicked at ") at space f.0 in
          (omega (arith, f.1, whole.fits), inl (occurs-part b (codes " panicked at ") at e whole (omega (arith, f.1))))

-- a numbered tail: its end, and how far it is read
pub numbered-end : (b : List ℕ) (at close old mid mid' new : ℕ) (found : Option ℕ)
    → OccursAt b (codes " (") at → IsDigitRun b (at + 2) close → (close ≡ at + 2 → ⊥) → mid ≤ old + 2
    → mid' + (at + 2) ≤ mid + close + 4 → (get_or b close 0 < 128 → mid' + (at + 2) ≤ mid + close + 1)
    → TextReads b (codes ") panicked at ") close mid' new found → IsTextEnd b (codes ") panicked at ") close found
    → IsTailEnd b at found × ReadsUpTo b at old new found
numbered-end b at close old mid mid' new found opens run is few few' ascii r f =
    let digits = run.digits in
    let number = agrees-plain b _ (at + 2) _ (agrees b _ (at + 2) digits.stands) (digits-plain digits.chars digits.digits) in
    let plain = plain-join b at (at + 2) close (agrees-plain b (codes " (") at 2 (agrees b (codes " (") at opens) refl) (rw (← digits.ends) at number) in
    let long : at + 3 ≤ close = omega arith in
    let reads = reads-up b (codes ") panicked at ") at close mid' old new found refl plain (omega arith) (omega arith) (omega arith)
    (inr (long, omega arith)) (λ same. omega (arith, ascii (omega (arith, same)))) r f in
    (ends found f, reads) where
      chars-some : (cs : List ℕ) → 0 < length (encode_utf8_all cs) → 0 < length cs
      chars-some [] some = some
      chars-some (c ∷ cs) some = omega arith

      ends : (o : Option ℕ) → IsTextEnd b (codes ") panicked at ") close o → IsTailEnd b at o
      ends None h = λ e high tail. elim (tail_cases b at e high tail) [
        | inl p ↦ apart b at p.0 opens
        | inr q ↦ h (rw (IsDigitRun-same b (at + 2) close q.close run q.run) q.closes)
      ]
      ends (Some e) h =
          let d = run.digits in
          let text = encode_utf8_all d.chars ++ codes ") panicked at " in
          let rest = occurs-both b (encode_utf8_all d.chars) (codes ") panicked at ") (at + 2) d.stands (rw d.ends at h.0) in
          let part = occurs-part b _ at e (occurs-both b (codes " (") text at opens rest) (grind (arith, length-append)) in
          (omega (arith, h.1, h.0.fits), inr (encode_utf8_all d.chars, (d.chars, chars-some d.chars (omega arith), d.digits, refl), part))

-- a name has no quote, by offsets
pub name-quiet : (b : List ℕ) (i j : ℕ) → j ≤ length b → IsName (part i j b) → NoQuoteBetween b i j
name-quiet b i j high h k low up = grind (arith, get_or-part, length-part, h.no_quote (k - i) 0)

-- a quote at or after the start of a head is at or after the quote before the name
pub head-letters : (b : List ℕ) (s e q : ℕ) → IsHead b s e → s ≤ q → get_or b q 0 ≡ 39 → s + 7 ≤ q
head-letters b s e q h low is =
    let word = occurs-front b (codes "thread ") (codes "'") s h.opening in
    grind (arith, nat_tests, text-passes (λ x. not (x == 39)) b (codes "thread ") s word refl q low)

-- a name is not empty, so the closing quote is after the opening one
pub head-order : (b : List ℕ) (s e : ℕ) → (h : IsHead b s e) → (s + 8 < h.quote) × (h.quote < length b) × (h.quote + 1 < e)
head-order b s e h = grind (arith, get_or_past, length-append, length-part)

-- there is one head at a start
pub head-same : (b : List ℕ) (s e e' : ℕ) → IsHead b s e → IsHead b s e' → e ≡ e'
head-same b s e e' h k =
    let ho = head-order b s e h in
    let ko = head-order b s e' k in
    let name = name-quiet b (s + 8) h.quote (omega arith) h.name k.quote in
    let quotes : k.quote ≡ h.quote = grind (arith, name-quiet b (s + 8) k.quote (omega arith) k.name h.quote) in
    tail-same b (h.quote + 1) e e' h.ends k.ends h.tail (rw quotes at k.tail)

-- if no quote follows, no head has its name after this quote
pub IsOpenedHeadEnd-none : (b : List ℕ) (place quote : ℕ) → IsNextQuote b (quote + 1) None → IsOpenedHeadEnd b place quote None
IsOpenedHeadEnd-none b place quote h s e low here head = let order = head-order b s e head in let none = h head.quote in grind arith

-- if there is another text before the quote, no head has its name after it
pub IsOpenedHeadEnd-closed : (b : List ℕ) (place quote : ℕ) → ¬ IsOpened b place quote → IsOpenedHeadEnd b place quote None
IsOpenedHeadEnd-closed b place quote none s e low here head =
    let word = occurs-front b (codes "thread ") (codes "'") s head.opening in
    let at : s ≡ quote - 7 = omega arith in
    none (omega arith, rw at at head.line_start, rw at at word)

module _ (b : List ℕ) (place quote close : ℕ) (opened : IsOpened b place quote) (is : get_or b quote 0 ≡ 39)
    (within : quote < length b) (closes : IsNextQuote b (quote + 1) (Some close)) where
  -- after `thread '` there is a head if one ends after the next quote
  pub IsOpenedHeadEnd-opened : (found : Option ℕ) → IsNamedHeadEnd b quote close found → IsOpenedHeadEnd b place quote found
  IsOpenedHeadEnd-opened None h = λ s e start here head.
      let order = head-order b s e head in
      let same : head.quote ≡ close = grind (arith, name-quiet b (s + 8) head.quote (omega arith) head.name close, closes.1) in
      let at : s + 8 ≡ quote + 1 = omega arith in
      h e head.ends (rw same at rw at at head.name) (rw same at head.tail)
  IsOpenedHeadEnd-opened (Some e) h = grind arith

-- a part without a quote is a name if it is not empty and is UTF-8
name-from : (b : List ℕ) (i j : ℕ) → i < j → j ≤ length b → IsUtf8 (part i j b) → NoQuoteBetween b i j → IsName (part i j b)
name-from b i j some high utf8 quiet = record {
  some = omega (arith, length-part b i j high);
  utf8 = utf8;
  no_quote = λ k d low. rw (get_or_default (part i j b) k d 0 low) (grind (arith, get_or-part, length-part, quiet (i + k)));
}

module _ (b : List ℕ) (quote close old : ℕ) (after : quote < close) (high : close < length b) where
  -- between two quotes that are next to each other there is no name
  pub named-empty : quote + 1 ≡ close → IsNamedHeadEnd b quote close None × HeadReadsTo b quote old old close None
  named-empty is = (
    λ e within name tail. omega (arith, name.some, length-part b (quote + 1) close),
    record {
      last = close + 1;
      low = omega arith;
      high = omega arith;
      plain = λ k low up. absurd (omega arith);
      few = inl (omega arith, omega arith);
      before = tt;
    },
  )

  -- nor is there a head without a tail
  pub named-none : (new : ℕ) → IsTailEnd b (close + 1) None → ReadsUpTo b (close + 1) old new None
      → IsNamedHeadEnd b quote close None × HeadReadsTo b quote old new close None
  named-none new none r = (
    λ e within name tail. none e within tail,
    record { last = r.last; low = omega (arith, r.low); high = r.high; plain = r.plain; few = inl (r.far, r.near); before = tt },
  )

  module _ (mid new e : ℕ) (tail : IsTailEnd b (close + 1) (Some e)) (r : ReadsUpTo b (close + 1) old mid (Some e))
      (read : new ≤ mid + (close - (quote + 1))) where
    tail-few : FewReads (close - (quote + 1)) (close + 1) r.last old new
    tail-few = inr (r.before.1, omega (arith, r.before.2))

    -- nor one whose name is malformed
    pub named-malformed : ¬ IsUtf8 (part (quote + 1) close b) → IsNamedHeadEnd b quote close None × HeadReadsTo b quote old new close None
    named-malformed bad = (
      λ e' within name tail'. bad name.utf8,
      record { last = r.last; low = omega (arith, r.low); high = r.high; plain = r.plain; few = tail-few; before = tt },
    )

    -- any other name before a tail makes a head
    pub named-some : IsUtf8 (part (quote + 1) close b) → NoQuoteBetween b (quote + 1) close → quote + 1 ≢ close
        → IsNamedHeadEnd b quote close (Some e) × HeadReadsTo b quote old new close (Some e)
    named-some utf8 quiet apart = (
      (tail.0, name-from b (quote + 1) close (omega arith) (omega arith) utf8 quiet, tail.1),
      record { last = r.last; low = omega (arith, r.low); high = r.high; plain = r.plain; few = tail-few; before = (r.before.0, omega (arith, r.before.1)) },
    )
