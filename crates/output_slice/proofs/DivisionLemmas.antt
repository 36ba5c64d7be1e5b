-- Bytes divide into lines in one way, and the line of the first note.
use Rattle.output_slice.proofs.Words.{◌≡◌, ◌≢◌, inl, inr, ℕ, zero, suc, ◌+◌, ◌-◌, ◌<◌, List, [], ◌∷◌, ◌++◌, length, get_or, refl, sym, ap, ◌∙◌, arith, append-nil, All, AllPairs, ◌≤◌, ◌⊎◌, take, drop, length-append, length-drop, length-take, take-append-drop, not, ◌==◌, sum_by, Some, None, codes, get_or-take, length-take-le, take_all, concat, cases_lt, All-cons, All-head, All-tail, All-nil, AllPairs-cons, nat_tests, get_or_past, drop_all, sum_by-cons, lines_of, part, without_terminator, FindsNeedle, IsLine, AreLines, IsLineStart, IsNote, IsNoteLine, IsLineEnd, NoFeedBetween}
use Rattle.bstr.specs.Text.{line_len, Contains}
use Rattle.bstr.proofs.lemmas.LineLemmas.{line_len-bounds, lines-append, lines-nil, lines-one, lines-step, EndsLine}
use Rattle.bstr.proofs.lemmas.LengthLemmas.{length-lines_of}
use Rattle.bstr.proofs.lemmas.RestLemmas.{concat-lines_of}
use Rattle.output_slice.proofs.OccursLemmas.{reads, get_or-part, length-part, occurs-front-take, occurs-in-part, text-passes}

-- the line ends with a line feed
abbrev Ended : List ℕ → List ℕ → Type 0
Ended line later = get_or line (length line - 1) 0 ≡ 10

-- a line is the only line of its bytes
pub line-alone : (l : List ℕ) → IsLine l → lines_of l ≡ l ∷ []
line-alone l line = grind (arith, lines-one)

-- a division is the result of the function for the joined lines
lines-same : (ls : List (List ℕ)) → All IsLine ls → AllPairs Ended ls → ls ≡ lines_of (concat ls)
lines-same [] each ends = sym lines-nil
lines-same (l ∷ ls) each ends =
    let rest = lines-same ls (All-tail IsLine l ls each) (λ i j d low high. ends (suc i) (suc j) d (omega arith) (omega arith)) in
    ap (λ xs. l ∷ xs) rest ∙ sym (split ls ends ∙ ap (λ xs. xs ++ lines_of (concat ls)) (line-alone l (All-head IsLine l ls each))) where
      split : (ms : List (List ℕ)) → AllPairs Ended (l ∷ ms) → lines_of (l ++ concat ms) ≡ lines_of l ++ lines_of (concat ms)
      split [] ends = rw (append-nil l, lines-nil, append-nil (lines_of l)) refl
      split (m ∷ ms) ends = lines-append (length l) l _ (omega arith) (inr (ends 0 1 [] (omega arith) (omega arith)))

-- lines that are a division are the lines
pub AreLines-same : (b : List ℕ) (lines : List (List ℕ)) → AreLines b lines → lines ≡ lines_of b
AreLines-same b lines h = lines-same lines h.each h.ends ∙ ap lines_of h.joined

-- the first line has no line feed before its last byte, which is one if bytes follow
first-line : (b : List ℕ) → ((k : ℕ) → k + 1 < line_len b → get_or b k 0 ≢ 10) × (line_len b < length b → get_or b (line_len b - 1) 0 ≡ 10)
unfolding line_len
first-line [] = (λ k low. absurd (omega arith), λ low. absurd (omega arith))
first-line (x ∷ b) = let rest = first-line b in
    (λ k low. grind (arith, nat_tests, rest.0 (k - 1)), λ low. grind (arith, nat_tests, rest.1, line_len-bounds b))

-- by the number of bytes
divided : (n : ℕ) (b : List ℕ) → length b ≤ n → AreLines b (lines_of b)
divided n [] low = rw lines-nil (record { joined = refl; each = All-nil _; ends = λ i j d low high. absurd (omega arith) })
divided zero (x ∷ b) low = absurd (omega arith)
divided (suc n) (x ∷ b) low =
    let bs = x ∷ b in
    let front = take (line_len bs) bs in
    let bounds = line_len-bounds bs (omega arith) in
    let first = first-line bs in
    let rest = divided n (drop (line_len bs) bs) (omega (arith, length-drop (line_len bs) bs)) in
    let size = length-take (line_len bs) bs in
    let line : IsLine front = record { some = omega arith; feed = λ k is. grind (arith, get_or-take, first.0 k, get_or_past front k 0) } in
    let ended : All (Ended front) (lines_of (drop (line_len bs) bs)) =
    λ k d more. grind (arith, get_or-take, length-drop, length-lines_of (drop (line_len bs) bs), first.1) in
    rw (lines-step bs (omega arith)) (record {
      joined = ap (λ t. front ++ t) rest.joined ∙ take-append-drop (line_len bs) bs;
      each = All-cons IsLine front _ line rest.each;
      ends = AllPairs-cons Ended front _ ended rest.ends;
    })

-- the lines are a division
pub AreLines-lines_of : (b : List ℕ) → AreLines b (lines_of b)
AreLines-lines_of b = divided (length b) b (omega arith)

-- the length of joined lines is the sum of their lengths
pub length-concat : (xs : List (List ℕ)) → length (concat xs) ≡ sum_by length xs
length-concat [] = refl
length-concat (x ∷ xs) = length-append x (concat xs) ∙ ap (λ n. length x + n) (length-concat xs) ∙ sym (sum_by-cons length x xs)

-- a text that does not occur in the joined bytes occurs in no line
none-in-lines : (t : List ℕ) (ls : List (List ℕ)) → ¬ Contains (concat ls) t → All (λ line. ¬ Contains line t) ls
none-in-lines t [] none = All-nil _
none-in-lines t (x ∷ xs) none = All-cons (λ line. ¬ Contains line t) x xs (λ h. none (h.0, grind (arith, reads, h.1)))
    (none-in-lines t xs (λ h. none (length x + h.0, grind (arith, reads, h.1))))

-- so it occurs in no line of bytes in which it does not occur
none-in : (t b : List ℕ) → ¬ Contains b t → All (λ line. ¬ Contains line t) (lines_of b)
none-in t b none = none-in-lines t (lines_of b) (rw concat-lines_of none)

-- the line from a line start s up to a line end e, between the lines before it and those after it
lines-round : (b : List ℕ) (s e : ℕ) → s < e → e ≤ length b → IsLineStart b s → NoFeedBetween b s (e - 1) → IsLineEnd b s e
    → lines_of b ≡ lines_of (take s b) ++ part s e b ∷ lines_of (drop (e - s) (drop s b))
lines-round b s e low high line quiet last =
    let before : EndsLine (take s b) = grind (arith, get_or-take, length-take) in
    let is_line : IsLine (part s e b) = record {
      some = omega (arith, length-part b s e high);
      feed = λ k is. grind (arith, get_or-part, length-part, get_or_past (part s e b) k 0, quiet (s + k));
    } in
    let behind = split (cases_lt e (length b)) ∙ ap (λ ls. ls ++ lines_of (drop (e - s) (drop s b))) (line-alone _ is_line) in
    lines-cut s b before ∙ ap (λ ls. lines_of (take s b) ++ ls) behind where
      lines-cut : (n : ℕ) (xs : List ℕ) → EndsLine (take n xs) → lines_of xs ≡ lines_of (take n xs) ++ lines_of (drop n xs)
      lines-cut n xs ends = ap lines_of (sym (take-append-drop n xs)) ∙ lines-append (length (take n xs)) (take n xs) (drop n xs) (omega arith) ends

      split : (e < length b) ⊎ (length b ≤ e) → lines_of (drop s b) ≡ lines_of (part s e b) ++ lines_of (drop (e - s) (drop s b))
      split (inl more) = lines-cut (e - s) (drop s b) (inr (grind (arith, get_or-part, length-part b s e high, last more)))
      split (inr none) =
          let left = length-drop s b in
          rw (take_all (e - s) (drop s b) (omega arith), drop_all (e - s) (drop s b) (omega arith), lines-nil) (sym (append-nil _))

module _ (b : List ℕ) (at s e : ℕ) (found : FindsNeedle b (codes "note: test did not panic as expected") 0 (Some at)) (low : s ≤ at)
    (line : IsLineStart b s) (front : NoFeedBetween b s at) (more : at ≤ e) (high : e ≤ length b) (last : IsLineEnd b at e)
    (quiet : NoFeedBetween b at (e - 1)) where
  -- the note ends within the line
  inside : at + 36 ≤ e
  inside =
      let other = text-passes (λ x. not (x == 10)) b (codes "note: test did not panic as expected") at found.1 refl (e - 1) in
      grind (arith, nat_tests, found.1.fits)

  -- the line that contains the first note is the note line
  pub note-line : IsNoteLine b (Some (record { start = s; bytes = without_terminator (part s e b) }))
  note-line =
      let long = inside in
      let before = take s b in
      let lines = lines-round b s e (omega arith) high line (λ k l u. grind (arith, front k, quiet k)) (λ less. (omega arith, (last less).1)) in
      let none = none-in (codes "note: test did not panic as expected") before (λ h. found.0.before h.0 (omega arith)
      (omega (arith, h.1.fits, length-take s b)) (occurs-front-take b _ h.0 s (omega arith) h.1)) in
      let start = sym (length-take-le s b (omega arith)) ∙ sym (ap length (concat-lines_of before)) ∙ length-concat (lines_of before) in
      let is_note : IsNote (part s e b) = (at - s, occurs-in-part b _ at s e low (omega arith) high found.1) in
      (lines_of b, AreLines-lines_of b, (lines_of before, part s e b, lines_of (drop (e - s) (drop s b)), lines, none, is_note, start, refl))

-- without a note there is no note line
pub note-none : (b : List ℕ) → FindsNeedle b (codes "note: test did not panic as expected") 0 None → IsNoteLine b None
note-none b none = (lines_of b, AreLines-lines_of b, none-in (codes "note: test did not panic as expected") b (λ h. grind (arith, none h.0)))
