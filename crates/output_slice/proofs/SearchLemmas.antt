-- The state of the counted search: the taken heads so far, and the reads.
use Rattle.output_slice.proofs.Words.{◌≡◌, ℕ, min, ◌+◌, ◌-◌, ◌*◌, ◌<◌, ◌≤◌, List, [], ◌∷◌, ◌++◌, length, get_or, arith, inl, inr, Option, Some, None, MatchOption, IfSome, ◌^◌, append_assoc, append-nil, get_or_push, length_push, slice_get-get_or, HeadSpan, IsLineStart, IsHead, last_of, IsTaken, IsOpenedHeadEnd, IsNextQuote, ArePlain, FewReads, HeadReads, QuoteReads, ReadsAll, NoQuoteBetween}
use Rattle.output_slice.proofs.HeadLemmas.{IsOpenedHeadEnd-none, head-letters}
use Rattle.output_slice.proofs.TakenLemmas.{IsTaken-from_leftmost, Leftmost, leftmost-before}

-- the heads so far, and the heads that are taken from `place` on, are those of all bytes
abbrev pub Settled : List ℕ → ℕ → List HeadSpan → Type 0
Settled b place taken = (rest : List HeadSpan) → Leftmost b place rest → Leftmost b 0 (taken ++ rest)

-- no head that starts at or after the offset starts before the `thread ` of the next quote
starts-late : (b : List ℕ) (place q s e : ℕ) → NoQuoteBetween b place q → place ≤ s → IsHead b s e → q ≤ s + 7
starts-late b place q s e quiet late head = grind arith

-- a quote after which no head has its name
pub settled-none : (b : List ℕ) (place q : ℕ) (taken : List HeadSpan) → Settled b place taken → place ≤ q → get_or b q 0 ≡ 39
    → NoQuoteBetween b place q → ((s e : ℕ) → place ≤ s → s + 7 ≡ q → ¬ IsHead b s e) → Settled b (q + 1) taken
settled-none b place q taken h low is quiet none rest r = h rest (leftmost-before b place (q + 1) rest (omega arith) (λ s e from head.
    grind (arith, starts-late b place q s e quiet from head, head-letters b s e q head, none s e from)) r)

-- a quote after which a head has its name
pub settled-head : (b : List ℕ) (place q : ℕ) (taken : List HeadSpan) (x : HeadSpan) → Settled b place taken → NoQuoteBetween b place q
    → place ≤ x.start → x.start + 7 ≡ q → IsHead b x.start x.stop → Settled b x.stop (taken ++ x ∷ [])
settled-head b place q taken x h quiet new here head rest r = rw append_assoc (h (x ∷ rest)
    (record { head = head; low = new; least = λ s e low other. omega (arith, starts-late b place q s e quiet low other) }, r))

-- no quote is left
pub settled-done : (b : List ℕ) (place : ℕ) (taken : List HeadSpan) → Settled b place taken → NoQuoteBetween b place (length b) → IsTaken b taken
settled-done b place taken h quiet = IsTaken-from_leftmost b taken (rw append-nil at (h [] (λ s e low head.
    omega (arith, starts-late b place (length b) s e quiet low head, head.opening.fits))))

-- the reads so far, the next quote q, and an offset after q before which there is no other quote
pub record WithReads (b : List ℕ) (old new place q : ℕ) : Type 0 where
  pub seen : ℕ
  pub low : q < seen
  pub high : seen ≤ length b
  pub plain : ArePlain b (q + 1) seen
  -- the reads of the tail after q
  pub tail : ℕ
  pub far : tail + (q + 1) ≤ seen + 5
  pub near : tail + 2 * (q + 1) ≤ 2 * seen + 2
  -- three reads for each byte up to q are enough for all but that tail, and for the reads before q
  pub paid : new ≤ old + (3 * (q + 1) + tail)
  pub paid_one : place + 7 ≤ q → new + 1 ≤ old + (3 * (q + 1) + tail)
  pub paid_word : place + 7 ≤ q → IsLineStart b (q - 7) → new + 8 ≤ old + (3 * (q + 1) + tail)
  -- each byte up to q was read
  pub all : old + (q + 1) ≤ new

-- the reads if there is a next quote, and if there is none
abbrev NextReads : List ℕ → ℕ → ℕ → ℕ → Option ℕ → Type 0
NextReads b old new place next = MatchOption next ((new ≤ old + (3 * length b + 8)) × (old + length b ≤ new)) (λ q. WithReads b old new place q)

-- the next quote was searched for from the offset on, after one to three reads for each byte before it
next-reads : (b : List ℕ) (old mid new place : ℕ) (next : Option ℕ) → place ≤ length b → old + place ≤ mid → mid ≤ old + 3 * place
    → IsNextQuote b place next → QuoteReads b place mid new next → NextReads b old new place next
next-reads b old mid new place next within all paid is reads = grind arith

-- the state of the search: the list so far, the last of it, the next quote and the reads
pub record Searched (b : List ℕ) (old new place : ℕ) (next : Option ℕ) (last : Option HeadSpan) : Type 0 where
  pub taken : List HeadSpan
  pub settled : Settled b place taken
  pub is_last : last ≡ last_of taken
  pub is_next : IsNextQuote b place next
  pub fits : IfSome next (λ q. q + 1 < 2 ^ 64)
  pub within : place ≤ length b
  pub reads : NextReads b old new place next

-- the start of the search
pub searched-first : (b : List ℕ) (old new : ℕ) (next : Option ℕ) → IsNextQuote b 0 next → IfSome next (λ q. q + 1 < 2 ^ 64)
    → QuoteReads b 0 old new next → Searched b old new 0 next None
searched-first b old new next is fits reads = grind arith

-- a step at a quote after which no head has its name
pub searched-none : (b : List ℕ) (old new scanned tested place q : ℕ) (close : Option ℕ) (last : Option HeadSpan)
    → Searched b old new place (Some q) last → IsNextQuote b (q + 1) close → IfSome close (λ c. c + 1 < 2 ^ 64)
    → QuoteReads b (q + 1) new scanned close → IsOpenedHeadEnd b place q None → (scanned < tested → place + 7 ≤ q)
    → (scanned + 1 < tested → IsLineStart b (q - 7)) → HeadReads b q scanned tested close None
    → IfSome close (λ c. ReadsAll (c + 1) scanned tested None) → Searched b old tested (q + 1) close last
searched-none b old new scanned tested place q close last h is fits reads none opened line more all = record {
  taken = h.taken;
  settled = settled-none b place q h.taken h.settled h.is_next.0.low h.is_next.1 h.is_next.0.before none;
  is_last = h.is_last;
  is_next = is;
  fits = fits;
  within = omega (arith, h.is_next.0.high);
  reads = by_close close is reads more all;
} where
  -- the reads after them: of a tail, or of a whole tail and a name
  behind : (name at last : ℕ) → FewReads name at last (scanned + 8) tested → at ≤ last → (tail : ℕ) × (tail + at ≤ last + 5) × (tail + 2 * at ≤ 2 * last + 2)
      × (tested ≤ scanned + 8 + tail + (name - 4))
  behind name at last (inl f) low = (tested - (scanned + 8), omega arith, omega arith, omega arith)
  behind name at last (inr f) low = (last + 5 - at, omega arith, omega arith, omega arith)

  by_close : (n : Option ℕ) → IsNextQuote b (q + 1) n → QuoteReads b (q + 1) new scanned n
      → HeadReads b q scanned tested n None → IfSome n (λ c. ReadsAll (c + 1) scanned tested None) → NextReads b old tested (q + 1) n
  by_close None i r m a = (omega (arith, h.reads.paid, h.reads.high, h.reads.far), omega (arith, h.reads.all))
  by_close (Some c) i r m a =
      let w : WithReads b old new place q = h.reads in
      -- the reads before the quote are accounted for: none, one, or all eight
      let before : new + min (tested - scanned) 8 ≤ old + (3 * (q + 1) + w.tail) = grind arith in
      let read = behind _ _ _ m.few (omega (arith, m.low)) in
      let seen : w.seen ≤ c = grind (arith, w.plain c) in record {
        seen = m.last;
        low = m.low;
        high = m.high;
        plain = m.plain;
        tail = read.0;
        far = read.1;
        near = read.2;
        paid = omega arith;
        paid_one = λ more. omega arith;
        paid_word = λ more line. let feed : w.seen + 8 ≤ c = grind (arith, w.plain (c - 8), h.is_next.1) in omega arith;
        all = omega (arith, w.all, a.0);
      }

-- a step at a quote after which a head has its name
pub searched-found : (b : List ℕ) (old new scanned tested ended place q e : ℕ) (close next : Option ℕ) (last : Option HeadSpan)
    → Searched b old new place (Some q) last → IsNextQuote b (q + 1) close → QuoteReads b (q + 1) new scanned close
    → IsOpenedHeadEnd b place q (Some e) → HeadReads b q scanned tested close (Some e)
    → IfSome close (λ c. ReadsAll (c + 1) scanned tested (Some e)) → IsNextQuote b e next
    → IfSome next (λ x. x + 1 < 2 ^ 64) → QuoteReads b e tested ended next → Searched b old ended e next (Some (record { start = q - 7; stop = e }))
searched-found b old new scanned tested ended place q e close next last h is reads stop more all is' fits reads' =
    let x : HeadSpan = record { start = q - 7; stop = e } in record {
      taken = h.taken ++ x ∷ [];
      settled = settled-head b place q h.taken x h.settled h.is_next.0.before (omega (arith, stop.0)) (omega (arith, stop.0)) stop.1;
      is_last = grind (arith, length_push, get_or_push, slice_get-get_or (h.taken ++ x ∷ []) (length h.taken) x);
      is_next = is';
      fits = fits;
      within = stop.1.ends;
      reads = let p = paid close is reads more all in next-reads b old tested ended e next stop.1.ends p.0 p.1 is' reads';
    } where
      paid : (n : Option ℕ) → IsNextQuote b (q + 1) n → QuoteReads b (q + 1) new scanned n
          → HeadReads b q scanned tested n (Some e) → IfSome n (λ c. ReadsAll (c + 1) scanned tested (Some e)) → (old + e ≤ tested) × (tested ≤ old + 3 * e)
      paid None i r m a = absurd (IsOpenedHeadEnd-none b place q i (q - 7) e (omega (arith, stop.0)) (omega (arith, stop.0)) stop.1)
      paid (Some c) i r m a = grind (arith, h.reads.paid_word stop.0 stop.1.line_start, h.reads.plain c, i.1, m.few, m.before, a.1, i.0.low)
