-- The line starts that a head crosses, and the taken heads on either side of a cut.
use Rattle.std.proofs.Common.{false}
use Rattle.output_slice.proofs.Words.{◌≡◌, ◌∙◌, ap, take_rest, true, ℕ, ◌+◌, ◌-◌, ◌<◌, ◌≤◌, inl, inr, List, length, get_or, arith, unwrap_or, Some, None, take, refl, codes, not, ◌==◌, [], ◌∷◌, ◌++◌, drop, length-append, length-drop, append-nil, add-zero, Option, map, get_or-append-add, cases_lt, nat_tests, IsLast, OccursAt, IsHead, IsLineStart, IsLineEnd, IsNextQuote, NoQuoteBetween, AllHeadsEndBy, IsLastOpening, IsOpening, MayAllBeCrossed, MayCross, length-map, slice_get-get_or, slice_get-map, slice_get_within, get_or_from_slice_get, HeadSpan, IsTaken, IsLastTaken, last_of}
use Rattle.std.proofs.lemmas.Bool.{false≢true}
use Rattle.output_slice.specs.Cut.{IsCut, head_behind}
use Rattle.output_slice.specs.Search.{IsLastFrom}
use Rattle.output_slice.proofs.OccursLemmas.{occurs-back, text-passes, occurs-moved, part-same, reads}
use Rattle.output_slice.proofs.HeadLemmas.{name-quiet, head-order, tail-plain, tail_cases}
use Rattle.output_slice.proofs.TakenLemmas.{IsFirstHead, IsTaken-from_leftmost, Leftmost, leftmost-before, IsLastTaken-head, IsTaken-exists, leftmost-taken}

-- if a head contains a line feed, there is no quote from the start of its name up to the line feed
pub head-feed : (b : List ℕ) (s e k : ℕ) → IsHead b s e → s ≤ k → k < e → get_or b k 0 ≡ 10 → (s + 8 ≤ k) × NoQuoteBetween b (s + 8) (k + 1)
head-feed b s e k h low high is =
    let order = head-order b s e h in
    let quiet = name-quiet b (s + 8) h.quote (omega arith) h.name in
    let word = text-passes (λ x. not (x == 10)) b (codes "thread '") s h.opening refl k low in
    grind (arith, nat_tests, tail-plain b (h.quote + 1) e h.ends h.tail k)

module _ (b : List ℕ) (c : ℕ) (within : c ≤ length b) (line : IsLineStart b c) where
  -- a line start is a cut, unless a head may begin at the last quote before it
  cut-from : ((s : ℕ) → s + 8 ≤ c → IsOpening b s → NoQuoteBetween b (s + 8) c → ⊥) → IsCut b c
  cut-from none = record {
    within = within;
    line_start = line;
    uncrossed = λ s e head low. grind (arith, head-feed b s e (c - 1) head, none s, head.opening);
  }

  -- a line start without a quote before it is a cut
  pub cut-quiet : NoQuoteBetween b 0 c → IsCut b c
  cut-quiet none = cut-from (grind arith)

  -- and so is a line start whose last quote before it does not begin a name
  pub cut-closed : (q : ℕ) → IsLast (λ k. get_or b k 0 ≡ 39) 0 c (Some q) → (7 ≤ q → ¬ IsOpening b (q - 7)) → IsCut b c
  cut-closed q h closed = cut-from (λ s far opening quiet.
      let at : s ≡ q - 7 = grind (arith, opening.1.reads 7, h.0.after (s + 7)) in
      closed (grind (arith, opening.1.reads 7, h.0.after (s + 7))) (rw at at opening))

-- if one prefix crosses two offsets, a head may cross all offsets between them
pub crossed-more : (b : List ℕ) (s cut at : ℕ) → MayCross b s cut → MayAllBeCrossed b cut at → MayAllBeCrossed b s at
crossed-more b s cut at h more c low high = let cases = cases_lt cut c in let past = more c in grind arith

-- if there is no `thread '` at a line start, there is no head
pub opening-none : (b : List ℕ) → IsLastOpening b None → (s e : ℕ) → IsHead b s e → ⊥
opening-none b none s e h = grind (arith, head-order, none s)

module _ (b : List ℕ) (at : ℕ) (o : IsLastOpening b (Some at)) where
  -- every head ends at or before the end of the line of the first quote after the last prefix
  pub window-end : (next : Option ℕ) (q end : ℕ) → IsNextQuote b (at + 8) next → q ≡ unwrap_or next (at + 8) → q ≤ end → IsLineEnd b q end → AllHeadsEndBy b end
  window-end next q end quote is up last s e h =
      let order = head-order b s e h in
      let name = name-quiet b (s + 8) h.quote (omega arith) h.name in
      let by : h.quote ≤ q = grind (arith, o.1.1.reads 7) in
      grind (arith, tail-plain b (h.quote + 1) e h.ends h.tail (end - 1))

-- every head ends with the marker of a panic, so it ends at or before the end of the last one
pub heads-end : (b : List ℕ) (end : ℕ) → ((at : ℕ) → OccursAt b (codes " panicked at ") at → at + 13 ≤ end) → AllHeadsEndBy b end
heads-end b end by s e h = elim (tail_cases b (h.quote + 1) e h.ends h.tail) [
  | inl plain ↦ omega (arith, by (h.quote + 1) plain.0, plain.1)
  | inr n ↦ omega (arith, by (n.close + 1) (occurs-back b (codes ")") (codes " panicked at ") n.close n.closes), n.ends)
]

-- bytes that are a head are a head at every line start
head-moved : (a b : List ℕ) (s e t f : ℕ) → IsHead a s e → f ≡ t + (e - s) → f ≤ length b → IsLineStart b t
    → ((n : ℕ) → n < e - s → get_or b (t + n) 0 ≡ get_or a (s + n) 0) → IsHead b t f
head-moved a b s e t f h size high line reads =
    let order = head-order a s e h in
    let q = t + (h.quote - s) in
    let name = part-same a b (s + 8) h.quote (t + 8) q (omega arith) (omega arith) (omega arith) (λ n low. grind (arith, reads (8 + n))) in
    let tail = part-same a b (h.quote + 1) e (q + 1) f h.ends high (omega arith) (λ n low. grind (arith, reads (h.quote + 1 - s + n))) in record {
      line_start = line;
      opening = occurs-moved a b _ s t h.opening (omega arith) (λ n low. reads n (omega arith));
      quote = q;
      name = rw name at h.name;
      closing = grind (arith, h.closing, reads (h.quote - s));
      tail = rw tail at h.tail;
      ends = high;
    }

-- a head of bytes that are at a line start of other bytes is a head of those, and the other way round
module _ (a b : List ℕ) (c s e t f : ℕ) (stands : OccursAt b a c) (line : IsLineStart b c)
    (start : t ≡ c + s) (stop : f ≡ c + e) where
  head-out : IsHead a s e → IsHead b t f
  head-out h = let order = head-order a s e h in head-moved a b s e t f h (omega arith) (omega (arith, stands.fits, h.ends))
      (λ pos. grind (arith, h.line_start, stands.reads (s - 1))) (λ n low. grind (arith, stands.reads (s + n), h.ends))

  head-in : IsHead b t f → e ≤ length a → IsHead a s e
  head-in h high = let order = head-order b t f h in head-moved b a t f s e h (omega arith) high
      (λ pos. grind (arith, h.line_start, stands.reads (s - 1))) (λ n low. grind (arith, stands.reads (s + n)))

-- the heads of the bytes up to an offset are the heads that end at or before it
module _ (b : List ℕ) (c s e : ℕ) (within : c ≤ length b) where
  head-of-front : IsHead (take c b) s e → IsHead b s e × (e ≤ c)
  head-of-front h = let whole = head-out (take c b) b 0 s e s e in grind (arith, reads)

  front-of-head : IsHead b s e → e ≤ c → IsHead (take c b) s e
  front-of-head h high = let within = head-in (take c b) b 0 s e s e in grind (arith, reads)

module _ (b : List ℕ) (c : ℕ) (cut : IsCut b c) where
  -- the bytes from the cut on
  back : OccursAt b (drop c b) c
  back = let within = cut.within in grind (arith, reads)

  -- a head after the cut is a head of these bytes
  behind : (s e k : ℕ) → c + k ≤ s → IsHead b s e → IsHead (drop c b) (s - c) (e - c)
  behind s e k low head =
      let order = head-order b s e head in
      head-in (drop c b) b c (s - c) (e - c) s e back cut.line_start (omega arith) (omega arith) head (omega (arith, head.ends, length-drop c b))

  -- the taken heads after the cut
  leftmost-behind : (ys : List HeadSpan) (k : ℕ) → Leftmost (drop c b) k ys → Leftmost b (c + k) (map (head_behind c) ys)
  leftmost-behind [] k h = λ s e low head. h (s - c) (e - c) (omega arith) (behind s e k low head)
  leftmost-behind (y ∷ ys) k h =
      let whole = head-out (drop c b) b c y.start y.stop _ _ back cut.line_start refl refl h.0.head in
      let least = λ (s e : ℕ) (low : c + k ≤ s) (head : IsHead b s e). h.0.least (s - c) (e - c) (omega arith) (behind s e k low head) in
      (record { head = whole; low = omega (arith, h.0.low); least = λ s e low head. omega (arith, least s e low head) }, leftmost-behind ys y.stop h.1)

  -- a head that begins before the cut is a head of the bytes before it
  before : (s e : ℕ) → IsHead b s e → s < c → IsHead (take c b) s e
  before s e head early = front-of-head b c s e cut.within head (cut.uncrossed s e head early)

  -- the taken heads before the cut, then those after it
  leftmost-joined : (xs ys : List HeadSpan) (from : ℕ) → from ≤ c → Leftmost (take c b) from xs → Leftmost (drop c b) 0 ys
      → Leftmost b from (xs ++ map (head_behind c) ys)
  leftmost-joined [] ys from low h k =
      leftmost-before b from c (map (head_behind c) ys) low
      (λ s e near head. elim (cases_lt s c) [ inl early ↦ absurd (h s e near (before s e head early)) | inr late ↦ late ])
      (rw add-zero at (leftmost-behind ys 0 k))
  leftmost-joined (x ∷ xs) ys from low h k =
      let whole = head-of-front b c x.start x.stop cut.within h.0.head in
      let order = head-order b x.start x.stop whole.0 in
      let least = λ (s e : ℕ) (near : from ≤ s) (head : IsHead b s e) (early : s < c). h.0.least s e near (before s e head early) in
      let first : IsFirstHead b from x = record { head = whole.0; low = h.0.low; least = λ s e near head. grind (arith, cases_lt s c, least s e near head) } in
      (first, leftmost-joined xs ys x.stop whole.1 h.1 k)

-- the taken heads before a cut, then those after it
pub divides : (b : List ℕ) (c : ℕ) (xs ys : List HeadSpan) → IsCut b c → IsTaken (take c b) xs → IsTaken (drop c b) ys
    → IsTaken b (xs ++ map (head_behind c) ys)
divides b c xs ys cut front back = IsTaken-from_leftmost b (xs ++ map (head_behind c) ys)
    (leftmost-joined b c cut xs ys 0 (omega arith) (leftmost-taken (take c b) xs front) (leftmost-taken (drop c b) ys back))

-- the last of the heads after an offset, with other heads before them
last_of-behind : (c : ℕ) (xs ys : List HeadSpan) (h : HeadSpan) → Some h ≡ last_of ys → Some (head_behind c h) ≡ last_of (xs ++ map (head_behind c) ys)
last_of-behind c xs ys h e =
    let zs = map (head_behind c) ys in
    let last : last_of zs ≡ Some (head_behind c h) = grind (arith, length-map, slice_get-map) in
    let within = slice_get_within zs (length zs - 1) (head_behind c h) last in
    let is = get_or_from_slice_get zs (length zs - 1) (head_behind c h) (head_behind c h) last in
    grind (arith, length-append, get_or-append-add, slice_get-get_or)

-- What the search in the bytes from a cut on finds, by its source, which is these bytes with a count.
module _ (b : List ℕ) (c : ℕ) (source : List ℕ × ℕ) (cut : IsCut b c) (is : source ≡ (take (length b - c) (drop c b), 0)) where
  searched : source.0 ≡ drop c b
  searched = ap (λ s. s.0) is ∙ take_rest b c

  -- the last head after the cut is a head of all bytes
  pub found-within : (h : HeadSpan) → IsLastTaken source.0 (Some h) → (c + h.start ≤ length b) × (c + h.stop ≤ length b)
  found-within h last =
      let head = IsLastTaken-head source.0 h last in
      let order = head-order source.0 h.start h.stop head in
      let size : length source.0 ≡ length b - c = ap length searched ∙ length-drop c b in
      (omega (arith, head.ends, cut.within), omega (arith, head.ends, cut.within))

  -- the last head after the cut is the last of all
  pub found-behind : (h x : HeadSpan) → IsLastTaken source.0 (Some h) → x ≡ head_behind c h → IsLastTaken b (Some x)
  found-behind h x last e =
      let here = rw searched at last in
      let front = IsTaken-exists (take c b) in
      rw e (front.0 ++ map (head_behind c) here.0, divides b c front.0 here.0 cut front.1 here.1, last_of-behind c front.0 here.0 h here.2)

  -- if there is no head after the cut, the last one before it is the last of all
  pub found-before : (found : Option HeadSpan) → found ≡ None → ((s : ℕ) × (e : ℕ) × IsHead source.0 s e → false ≡ true) → IsLastFrom b c found
  found-before found e none = rw e (λ last taken.
      let nothing = IsTaken-from_leftmost (drop c b) [] (λ s e low head. false≢true (none (s, e, rw (← searched) at head))) in
      (taken.0, rw append-nil at (divides b c taken.0 [] cut taken.1 nothing), taken.2))

-- bytes after every head change nothing
pub last-within-front : (b : List ℕ) (e : ℕ) (found : Option HeadSpan) → e ≤ length b → AllHeadsEndBy b e → IsLastTaken (take e b) found → IsLastTaken b found
last-within-front b e found high ends (taken, h, is) =
    let whole : IsTaken b taken = record {
      heads = λ k d l. (head-of-front b e _ _ high (h.heads k d l)).0;
      rising = h.rising;
      rule = λ x is. h.rule x (front-of-head b e x.start x.stop high is (ends x.start x.stop is));
    } in (taken, whole, is)
