-- There is one list of taken heads.
use Rattle.output_slice.proofs.Words.{◌≡◌, ℕ, suc, ◌+◌, ◌-◌, ◌<◌, ◌≤◌, ◌⊎◌, ◌↔◌, zero, List, [], ◌∷◌, length, get_or, refl, sym, ap, subst, ◌∙◌, arith, inl, inr, ◌≢◌, ◌==◌, Bool, not, nat_le, ◌&&◌, ◌||◌, codes, All, Decides, ◌++◌, chars, encode_utf8_all, length-append, take_at, AllPairs, Contains, Option, Some, None, IsSome, cases_lt, cases_eq, All-cons, All-head, All-tail, All-nil, All-contains, All-weaker, Contains-get_or, AllPairs-cons, slice_get-get_or, slice_get_within, get_or_from_slice_get, nat_tests, Decides-by_and, get_or_past, IsUtf8-from_is_utf8, chars-encodes, is_utf8-from_IsUtf8, IsScalar, list_all, OccursAt, part, HeadSpan, IsHead, IsName, IsDigit, IsNumber, IsTail, IsTaken, IsLastTaken, last_of}
use Rattle.std.proofs.Math.Utf8.{scalar, scalars}
use Rattle.std.proofs.lemmas.Slice.Eq.{bytes_eq-Decides}
use Rattle.std.specs.Str.{is_utf8}
use Rattle.output_slice.proofs.HeadLemmas.{head-order, head-same}
use Rattle.unicode.specs.Perl.{is_digit_char}
use Rattle.output_slice.proofs.OccursLemmas.{occurs-part, part-occurs}

-- the taken heads that start at or after `from`
record TakenFrom (b : List ℕ) (from : ℕ) (taken : List HeadSpan) : Type 0 where
  heads : All (λ h. IsHead b h.start h.stop) taken
  rising : AllPairs (λ g h. g.start < h.start) taken
  low : All (λ h. from ≤ h.start) taken
  rule : (h : HeadSpan) → from ≤ h.start → IsHead b h.start h.stop → (Contains taken h ↔ All (λ g. g.start < h.start → g.stop ≤ h.start) taken)

-- the members of a list with one more head at its front
contains-cases : (x y : HeadSpan) (xs : List HeadSpan) → Contains (x ∷ xs) y → (x ≡ y) ⊎ Contains xs y
contains-cases x y xs h = grind arith

-- x is the first head that starts at or after `from`
pub record IsFirstHead (b : List ℕ) (from : ℕ) (x : HeadSpan) : Type 0 where
  pub head : IsHead b x.start x.stop
  pub low : from ≤ x.start
  pub least : (s e : ℕ) → from ≤ s → IsHead b s e → x.start ≤ s

-- leftmost first: the list has the first head from `from` on, then the first from its end on, until there is none
abbrev pub Leftmost : List ℕ → ℕ → List HeadSpan → Type 0
Leftmost b from [] = (s e : ℕ) → from ≤ s → ¬ IsHead b s e
Leftmost b from (x ∷ xs) = IsFirstHead b from x × Leftmost b x.stop xs

-- if no head starts between two offsets, they have the same taken heads
pub leftmost-before : (b : List ℕ) (place later : ℕ) (xs : List HeadSpan) → place ≤ later
    → ((s e : ℕ) → place ≤ s → IsHead b s e → later ≤ s) → Leftmost b later xs → Leftmost b place xs
leftmost-before b place later [] order none h = λ s e low head. h s e (none s e low head) head
leftmost-before b place later (x ∷ xs) order none h =
    (record { head = h.0.head; low = omega (arith, h.0.low); least = λ s e low head. h.0.least s e (none s e low head) head }, h.1)

-- the heads that are taken leftmost first are the taken heads
module _ (b : List ℕ) (from : ℕ) (x : HeadSpan) (xs : List HeadSpan) (first : IsFirstHead b from x) (h : TakenFrom b x.stop xs) where
  more-starts : All (λ g. x.start < g.start) xs
  more-starts = λ k d l. let order = head-order b x.start x.stop first.head in omega (arith, h.low k d l)

  abbrev Before : HeadSpan → HeadSpan → Type 0
  Before y g = g.start < y.start → g.stop ≤ y.start

  more-rule : (y : HeadSpan) → from ≤ y.start → IsHead b y.start y.stop → Contains (x ∷ xs) y ↔ All (Before y) (x ∷ xs)
  more-rule y low head = (
    λ among. elim (contains-cases x y xs among) [
      | inl same ↦ All-cons (Before y) x xs (λ l. grind arith) (λ k d l before. grind (arith, more-starts k d l))
      | inr later ↦
          let past = All-contains (λ g. x.stop ≤ g.start) xs y h.low later in
          All-cons (Before y) x xs (λ l. past) ((h.rule y past head).0 later)
    ],
    λ all. elim (cases_lt x.start y.start) [
      | inl l ↦
          let later = (h.rule y (All-head (Before y) x xs all l) head).1 (All-tail (Before y) x xs all) in (suc later.0, omega (arith, later.1), later.2)
      | inr early ↦
          let at : y.start ≡ x.start = omega (arith, first.least y.start y.stop low head) in
          let ends = head-same b x.start x.stop y.stop first.head (rw at at head) in (0, omega arith, grind arith)
    ],
  )

  taken-more : TakenFrom b from (x ∷ xs)
  taken-more = record {
    heads = All-cons (λ g. IsHead b g.start g.stop) x xs first.head h.heads;
    rising = AllPairs-cons (λ g k. g.start < k.start) x xs more-starts h.rising;
    low = All-cons (λ g. from ≤ g.start) x xs first.low (λ k d l. omega (arith, more-starts k d l, first.low));
    rule = more-rule;
  }

taken-leftmost : (b : List ℕ) (from : ℕ) (xs : List HeadSpan) → Leftmost b from xs → TakenFrom b from xs
taken-leftmost b from [] h =
    record { heads = All-nil _; rising = λ i j d low high. absurd (omega arith); low = All-nil _; rule = λ y low head. absurd (h y.start y.stop low head) }
taken-leftmost b from (x ∷ xs) h = taken-more b from x xs h.0 (taken-leftmost b x.stop xs h.1)

pub IsTaken-from_leftmost : (b : List ℕ) (xs : List HeadSpan) → Leftmost b 0 xs → IsTaken b xs
IsTaken-from_leftmost b xs h =
    let t = taken-leftmost b 0 xs h in
    record { heads = t.heads; rising = t.rising; rule = λ y head. t.rule y (omega arith) head }

-- two lists that follow the rule have the same heads
same-heads : (n : ℕ) (b : List ℕ) (xs ys : List HeadSpan) → IsTaken b xs → IsTaken b ys → (h : HeadSpan) → h.start < n → Contains xs h → Contains ys h
same-heads zero b xs ys p q h low among = absurd (omega arith)
same-heads (suc n) b xs ys p q h low among =
    let head = All-contains (λ g. IsHead b g.start g.stop) xs h p.heads among in
    (q.rule h head).1 (λ k d l before.
    let earlier = same-heads n b ys xs q p (get_or ys k d) (omega arith) (Contains-get_or ys k d l) in
    All-contains (λ g. g.start < h.start → g.stop ≤ h.start) xs (get_or ys k d) ((p.rule h head).0 among) earlier before)

-- lists in the order of starts with the same heads are the same
abbrev Rising : List HeadSpan → Type 0
Rising = AllPairs (λ g h. g.start < h.start)

rest-starts : (x : HeadSpan) (xs : List HeadSpan) (h : HeadSpan) → Rising (x ∷ xs) → Contains xs h → x.start < h.start
rest-starts x xs h rising among = let later = rising 0 (suc among.0) h in grind arith

same-rest : (x : HeadSpan) (xs ys : List HeadSpan) → Rising (x ∷ xs) → ((h : HeadSpan) → Contains (x ∷ xs) h → Contains (x ∷ ys) h)
    → (h : HeadSpan) → Contains xs h → Contains ys h
same-rest x xs ys rising to h among =
    let cases = contains-cases x h ys (to h (suc among.0, omega (arith, among.1), among.2)) in
    grind (arith, rest-starts x xs h rising among)

rising-same : (xs ys : List HeadSpan) → Rising xs → Rising ys → ((h : HeadSpan) → Contains xs h ↔ Contains ys h) → xs ≡ ys
rising-same [] [] p q same = refl
rising-same [] (y ∷ ys) p q same = absurd (omega (arith, ((same y).1 (0, omega arith, refl)).1))
rising-same (x ∷ xs) [] p q same = absurd (omega (arith, ((same x).0 (0, omega arith, refl)).1))
rising-same (x ∷ xs) (y ∷ ys) p q same =
    let one = contains-cases y x ys ((same x).0 (0, omega arith, refl)) in
    let two = contains-cases x y xs ((same y).1 (0, omega arith, refl)) in
    let heads : x ≡ y = grind (arith, rest-starts y ys x q, rest-starts x xs y p) in
    let to = same-rest x xs ys p (λ h among. rw (← heads) at ((same h).0 among)) in
    let back = same-rest y ys xs q (λ h among. rw heads at ((same h).1 among)) in
    cc (rising-same xs ys (λ i j d l u. p (suc i) (suc j) d (omega arith) (omega arith))
    (λ i j d l u. q (suc i) (suc j) d (omega arith) (omega arith)) (λ h. (to h, back h)))

-- there is one list of taken heads
pub IsTaken-same : (b : List ℕ) (xs ys : List HeadSpan) → IsTaken b xs → IsTaken b ys → xs ≡ ys
IsTaken-same b xs ys p q = rising-same xs ys p.rising q.rising (λ h.
    (same-heads (h.start + 1) b xs ys p q h (omega arith), same-heads (h.start + 1) b ys xs q p h (omega arith)))

-- there is one last taken head
pub IsLastTaken-same : (b : List ℕ) (f g : Option HeadSpan) → IsLastTaken b f → IsLastTaken b g → f ≡ g
IsLastTaken-same b f g p q = p.2 ∙ ap last_of (IsTaken-same b p.0 q.0 p.1 q.1) ∙ sym q.2

-- the last taken head is a head
pub IsLastTaken-head : (b : List ℕ) (h : HeadSpan) → IsLastTaken b (Some h) → IsHead b h.start h.stop
IsLastTaken-head b h l =
    let within = slice_get_within l.0 (length l.0 - 1) h (sym l.2) in
    rw (get_or_from_slice_get l.0 (length l.0 - 1) h h (sym l.2)) at (l.1.heads (length l.0 - 1) h within)

-- the last head of one list that follows the rule is the last of each
pub IsLastTaken-only : (b : List ℕ) (found : Option HeadSpan) (taken : List HeadSpan) → IsLastTaken b found → IsTaken b taken → found ≡ last_of taken
IsLastTaken-only b found taken last is = last.2 ∙ ap last_of (IsTaken-same b last.0 taken last.1 is)

-- there is a last taken head if and only if there is a head
pub IsLastTaken-some : (b : List ℕ) (found : Option HeadSpan) → IsLastTaken b found → IsSome found ↔ ((s : ℕ) × (e : ℕ) × IsHead b s e)
IsLastTaken-some b (Some h) last = (λ some. (h.start, h.stop, IsLastTaken-head b h last), λ head. refl)
IsLastTaken-some b None ([], is, none) =
    (λ some. absurd (cc), λ head. absurd (omega (arith, ((is.rule (record { start = head.0; stop = head.1 }) head.2).1 (All-nil _)).1)))
IsLastTaken-some b None (x ∷ xs, is, none) = absurd (cc (slice_get-get_or (x ∷ xs) (length (x ∷ xs) - 1) x (omega arith)))

-- if there is no head, none is taken
pub IsLastTaken-none : (b : List ℕ) → ((s e : ℕ) → ¬ IsHead b s e) → IsLastTaken b None
IsLastTaken-none b none = ([], IsTaken-from_leftmost b [] (λ s e low. none s e), refl)

-- a fact that holds, or does not
abbrev Known : Type 0 → Type 0
Known P = P ⊎ ¬ P

decided : {P : Type 0} (r : Bool) → Decides r P → Known P
decided r d = grind arith

mapped : {P Q : Type 0} → (P → Q) → (Q → P) → Known P → Known Q
mapped to from k = grind (arith, to, from, k)

both : {P Q : Type 0} → Known P → Known Q → Known (P × Q)
both p q = grind (arith, p, q)

-- the first of n offsets for which something holds
first : (P : ℕ → Type 0) → ((i : ℕ) → Known (P i)) → (size at : ℕ)
    → ((i : ℕ) × (at ≤ i) × P i × ((j : ℕ) → at ≤ j → j < i → ¬ P j)) ⊎ ((i : ℕ) → at ≤ i → i < at + size → ¬ P i)
first P known zero at = inr (λ i low high h. omega arith)
first P known (suc n) at = let here = known at in let rest = first P known n (at + 1) in grind (arith, here, rest)

-- whether there is an offset for which it holds
some : (P : ℕ → Type 0) → ((i : ℕ) → Known (P i)) → (size : ℕ) → ((i : ℕ) → P i → i < size) → Known ((i : ℕ) × P i)
some P known size below = let one = first P known size 0 in grind (arith, one, below)

-- whether two texts are the same
same-known : (xs ys : List ℕ) → Known (xs ≡ ys)
same-known xs ys = decided _ (bytes_eq-Decides xs ys)

-- whether characters are digits
digits-known : (cs : List ℕ) → Known (All (λ c. IsScalar c × IsDigit c) cs)
digits-known cs =
    decided _ (Decides-by_and test (λ c. IsScalar c × IsDigit c) (list_all test) (λ c. grind (arith, nat_tests)) refl (λ x xs. refl) cs) where
      test : ℕ → Bool
      test c = scalar c && (nat_le 48 c && nat_le c 57 || nat_le 128 c && is_digit_char c)

-- whether a text is a number, and a tail
number-known : (text : List ℕ) → Known (IsNumber text)
number-known text =
    let digits = digits-known (chars text) in
    let same = same-known text (encode_utf8_all (chars text)) in
    mapped (λ h. (chars text, h.0, h.1.0, h.1.1)) (λ n. rw (only n) (n.1, (n.2, n.3))) (both (grind arith) (both digits same)) where
      only : (n : IsNumber text) → chars text ≡ n.0
      only n =
          let all = All-weaker (λ c. IsScalar c × IsDigit c) IsScalar (λ c h. h.0) n.0 n.2 in
          ap chars n.3 ∙ chars-encodes n.0 ((Decides-by_and scalar IsScalar scalars (λ c. (λ t. t, λ t. t)) refl (λ x xs. refl) n.0).1 all)

tail-known : (text : List ℕ) → Known (IsTail text)
tail-known text =
    let number = part 2 (length text - 14) text in
    elim (both (number-known number) (same-known text (codes " (" ++ (number ++ codes ") panicked at ")))) [
      | inl h ↦ inl (inr (number, h.0, h.1))
      | inr none ↦ mapped (λ h. inl h) (λ t. elim t [ inl h ↦ h | inr n ↦ absurd (none (rw (← the_number n.0 n.2) (n.1, n.2))) ])
          (same-known text (codes " panicked at "))
    ] where
      the_number : (n : List ℕ) → text ≡ codes " (" ++ (n ++ codes ") panicked at ") → n ≡ part 2 (length text - 14) text
      the_number n is = sym (rw is (take_at n (codes ") panicked at ") _ (omega (arith, length-append n (codes ") panicked at ")))))

-- whether a text is at an offset, and whether a part is a name
occurs-known : (b xs : List ℕ) (at : ℕ) → 0 < length xs → Known (OccursAt b xs at)
occurs-known b xs at some =
    let same = same-known (part at (at + length xs) b) xs in
    grind (arith, part-occurs, occurs-part)

name-known : (text : List ℕ) → Known (IsName text)
name-known text =
    let utf8 = decided (is_utf8 text) (IsUtf8-from_is_utf8 text, is_utf8-from_IsUtf8 text) in
    let quotes = decided _ (Decides-by_and other (λ x. x ≢ 39) (list_all other) (λ x. grind (arith, nat_tests)) refl (λ x xs. refl) text) in
    grind arith where
      other : ℕ → Bool
      other x = not (x == 39)

-- whether there is a head at an offset, and its end
head-known : (b : List ℕ) (s e : ℕ) → Known (IsHead b s e)
head-known b s e =
    let opening = occurs-known b (codes "thread '") s (omega arith) in
    let quote = λ (q : ℕ). both (name-known (part (s + 8) q b)) (both (cases_eq (get_or b q 0) 39) (tail-known (part (q + 1) e b))) in
    let there = some Quote quote (length b) (λ q h. grind (arith, get_or_past)) in
    mapped (λ h. grind arith) (λ h. (h.line_start, (h.opening, (h.ends, (h.quote, (h.name, (h.closing, h.tail)))))))
    (both (grind arith) (both opening (both (grind arith) there))) where
      Quote : ℕ → Type 0
      Quote q = IsName (part (s + 8) q b) × ((get_or b q 0 ≡ 39) × IsTail (part (q + 1) e b))

-- the taken heads from an offset on, by the number of bytes left
heads-from : (size : ℕ) (b : List ℕ) (from : ℕ) → length b < from + size → (xs : List HeadSpan) × Leftmost b from xs
heads-from zero b from done = ([], λ s e low head. omega (arith, head.ends, head-order b s e head))
heads-from (suc n) b from done = elim
    (first (λ s. (e : ℕ) × IsHead b s e) (λ s. some (IsHead b s) (head-known b s) (length b + 1) (λ e h. omega (arith, h.ends))) (length b) from) [
      | inl f ↦
          let rest = heads-from n b f.2.0 (omega (arith, f.1, head-order b f.0 f.2.0 f.2.1)) in
          let least = λ (s e : ℕ) (low : from ≤ s) (head : IsHead b s e) (less : s < f.0). f.3 s low less (e, head) in
          let first : IsFirstHead b from (record { start = f.0; stop = f.2.0 }) =
          record { head = f.2.1; low = f.1; least = λ s e low head. omega (arith, least s e low head) } in
          (record { start = f.0; stop = f.2.0 } ∷ rest.0, (first, rest.1))
      | inr none ↦ ([], λ s e low head. none s low (omega (arith, head.ends, head-order b s e head)) (e, head))
    ]

-- there is a list of taken heads
pub IsTaken-exists : (b : List ℕ) → (taken : List HeadSpan) × IsTaken b taken
IsTaken-exists b = let heads = heads-from (length b + 1) b 0 (omega arith) in (heads.0, IsTaken-from_leftmost b heads.0 heads.1)

-- the taken heads are taken leftmost first
pub leftmost-taken : (b : List ℕ) (xs : List HeadSpan) → IsTaken b xs → Leftmost b 0 xs
leftmost-taken b xs h =
    let heads = heads-from (length b + 1) b 0 (omega arith) in
    subst (Leftmost b 0) (IsTaken-same b heads.0 xs (IsTaken-from_leftmost b heads.0 heads.1) h) heads.1
