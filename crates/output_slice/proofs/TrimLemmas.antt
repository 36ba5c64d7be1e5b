-- The start of a panic slice, and the bytes that remain when white space at the end is trimmed.
use Rattle.output_slice.proofs.Words.{◌≡◌, ℕ, zero, suc, ◌+◌, ◌-◌, ◌<◌, ◌≤◌, ◌⊎◌, true, List, [], ◌∷◌, ◌++◌, length, get_or, take, drop, refl, sym, ap, ◌∙◌, arith, inl, inr, length-drop, drop-drop, get_or-drop, drop_at, length-take, codes, Some, get_or-take, All, Option, None, IsTrue, encode_utf8, encode_utf8_all, length-append, IsScalar, is_whitespace, cases_Bool, nat_tests, encode_ascii, len_utf8_bounds, length-encode, IsCharBoundary-start, IsUtf8-encode, get_or-append, All-cons, All-head, All-tail, All-nil, take-append-drop, take-append-le, decoded-encode, SpellsChar-decoded, piece-bounds, pieces-append, pieces-nil, pieces-step, StartsClean, OccursAt, IsLast, part, IsBlank, IsBreak, IsTrimmedSlice, IsErrorLine, IsWidened, AreBreaks, AreSpaces, IsSpace}
use Rattle.bstr.specs.Bytes.{is_in, not_in}
use Rattle.bstr.specs.Trim.{kept_end, trim_end_by}
use Rattle.bstr.specs.Utf8.{Decoded, decoded, or_replacement, pieces, spans_from}
use Rattle.output_slice.proofs.OccursLemmas.{is-first, reads}

-- an error line is not empty, and begins with a line feed
line-start : (b : List ℕ) (s j : ℕ) (h : IsErrorLine b s j) → (j + 7 ≤ h.stop) × (get_or b j 0 ≡ 10)
line-start b s j h = grind (arith, get_or-take, length-take, h.begins.reads 0)

module _ (b : List ℕ) (s stop : ℕ) (low : stop ≤ s) (high : s ≤ length b) (breaks : AreBreaks b stop s)
    (text : 0 < stop → ¬ IsBreak (get_or b (stop - 1) 0)) where
  -- the last line before begins with `Error:`
  pub widened-some : (at : ℕ) → IsLast (λ k. get_or b k 0 ≡ 10) 0 stop (Some at) → OccursAt (part at stop b) (codes "\nError:") 0 → IsWidened b s (at + 1)
  widened-some at last starts = grind (arith, low, reads)

  -- it begins with something else
  pub widened-other : (at : ℕ) → IsLast (λ k. get_or b k 0 ≡ 10) 0 stop (Some at) → ¬ OccursAt (part at stop b) (codes "\nError:") 0 → IsWidened b s s
  widened-other at last none = inr (no_line, refl) where
    no_line : (j : ℕ) → ¬ IsErrorLine b s j
    no_line j line =
        let same : line.stop ≡ stop = grind (arith, line-start b s j line) in
        let here : j ≡ at = grind (arith, line-start b s j line, last.0.after j) in
        none (grind (arith, reads, rw same at rw here at line.begins))

-- widening gives one start
pub IsWidened-same : (b : List ℕ) (s t u : ℕ) → IsWidened b s t → IsWidened b s u → t ≡ u
IsWidened-same b s t u (inl x) (inl y) = grind (arith, line-start b s x.0 x.1, line-start b s y.0 y.1)
IsWidened-same b s t u (inl x) (inr none) = absurd (none.0 x.0 x.1)
IsWidened-same b s t u (inr none) (inl y) = absurd (none.0 y.0 y.1)
IsWidened-same b s t u (inr none) (inr other) = none.1 ∙ sym other.1

-- the character is white space
abbrev IsWhite : ℕ → Type 0
IsWhite c = IsScalar c × IsTrue (is_whitespace c)

-- a text is blank if it begins with such a character and is blank after it
blank-more : (bs : List ℕ) → IsTrue (is_whitespace (or_replacement (decoded bs).char)) → IsBlank (drop (decoded bs).size bs) → IsBlank bs
blank-more bs white h = by_char (decoded bs).char refl white where
  by_char : (o : Option ℕ) → (decoded bs).char ≡ o → IsTrue (is_whitespace (or_replacement o)) → IsBlank bs
  by_char None is white = absurd (cc)
  by_char (Some c) is white =
      let spelled = SpellsChar-decoded bs c is in
      (c ∷ h.0, All-cons IsWhite c h.0 (spelled.scalar, white) h.1, spelled.bytes ∙ ap (λ text. encode_utf8 c ++ text) h.2)

-- the end of the part that a trim of pieces keeps, the first of which is at `off`; `end` if it keeps none
abbrev kept_of : ℕ → ℕ → List Decoded → ℕ
kept_of end off ps = kept_end is_whitespace end (spans_from off ps)

-- the rest of the bytes after that offset is blank; it is `end` if all of them are
kept : (f : ℕ) (bs : List ℕ) (off end : ℕ) → length bs ≤ f → (k : ℕ) × (k ≤ length bs) × IsBlank (drop k bs)
    × (((0 < k) × (kept_of end off (pieces bs) ≡ off + k)) ⊎ ((k ≡ 0) × (kept_of end off (pieces bs) ≡ end)))
unfolding spans_from kept_end
kept f [] off end short = rw pieces-nil (0, omega arith, ([], All-nil _, refl), inr (refl, refl))
kept zero (x ∷ xs) off end short = absurd (omega arith)
kept (suc f) (x ∷ xs) off end short =
    let bs = x ∷ xs in
    let p = decoded bs in
    let left = length-drop p.size bs in
    let bounds = piece-bounds bs (omega arith) in
    let rest = λ (end : ℕ). kept f (drop p.size bs) (off + p.size) end (omega arith) in
    rw (pieces-step bs (omega arith)) (elim (cases_Bool (is_whitespace (or_replacement p.char))) [
      | inl space ↦
          let h = rest end in
          rw (space, kept_end, spans_from) (elim h.3 [
            | inl more ↦ (p.size + h.0, omega (arith, h.1), rw drop-drop at h.2, inl (omega arith, omega (arith, more.1)))
            | inr none ↦ (0, omega arith, blank-more bs space (rw none.0 at h.2), inr (refl, none.1))
          ])
      | inr other ↦
          let h = rest (off + p.size) in
          rw (other, kept_end, spans_from)
          (p.size + h.0, omega (arith, h.1), rw drop-drop at h.2, inl (omega arith, grind (arith, h.3)))
    ])

-- a trim keeps no more bytes than there are
kept-within : (xs : List ℕ) → kept_of 0 0 (pieces xs) ≤ length xs
kept-within xs = grind (arith, kept (length xs) xs 0 0)

-- blank text keeps nothing more
blank-kept : (cs : List ℕ) → All IsWhite cs → (end off : ℕ) → kept_of end off (pieces (encode_utf8_all cs)) ≡ end
unfolding spans_from kept_end
blank-kept [] all end off = rw pieces-nil refl
blank-kept (c ∷ cs) all end off =
    let first = All-head IsWhite c cs all in
    let text = encode_utf8 c in
    let some : 0 < length (text ++ encode_utf8_all cs) = grind (arith, length-append, length-encode, len_utf8_bounds) in
    let rest = blank-kept cs (All-tail IsWhite c cs all) end (off + length text) in
    rw (pieces-step (text ++ encode_utf8_all cs) some, decoded-encode c (encode_utf8_all cs) first.0, drop_at text (encode_utf8_all cs) (length text) refl)
    (rw (first.1, kept_end) rest)

-- pieces that keep nothing more do so after other pieces too
pieces-kept : (ps qs : List Decoded) → ((end off : ℕ) → kept_of end off qs ≡ end) → (end off : ℕ) → kept_of end off (ps ++ qs) ≡ kept_of end off ps
unfolding spans_from kept_end
pieces-kept [] qs h end off = h end off
pieces-kept (p ∷ ps) qs h end off = pieces-kept ps qs h _ (off + p.size)

-- so blank text at the end changes nothing
kept-before : (xs ys : List ℕ) → IsBlank ys → kept_of 0 0 (pieces (xs ++ ys)) ≡ kept_of 0 0 (pieces xs)
kept-before xs ys (cs, all, is) =
    rw is (ap (kept_of 0 0) (pieces-append (length xs) xs (encode_utf8_all cs) (omega arith) (clean cs all))
    ∙ pieces-kept (pieces xs) (pieces (encode_utf8_all cs)) (blank-kept cs all) 0 0) where
      clean : (cs : List ℕ) → All IsWhite cs → StartsClean (encode_utf8_all cs)
      clean [] all some = absurd (omega arith)
      clean (c ∷ cs) all some =
          let start = (IsCharBoundary-start (encode_utf8 c) (IsUtf8-encode c (All-head IsWhite c cs all).0)).1 in
          grind (arith, nat_tests, length-encode, get_or-append, len_utf8_bounds)

-- the bytes from s up to n, and those after n
split-at : (b : List ℕ) (s n : ℕ) → s ≤ n → drop s b ≡ part s n b ++ drop n b
split-at b s n low = let both = take-append-drop (n - s) (drop s b) in grind (arith, drop-drop)

-- a trim keeps the trimmed slice
pub IsTrimmedSlice-trim_end : (b : List ℕ) (s : ℕ) → s ≤ length b → IsTrimmedSlice b (record { start = s; bytes = trim_end_by is_whitespace (drop s b) })
IsTrimmedSlice-trim_end b s low =
    let size = length-drop s b in
    let h = kept (length (drop s b)) (drop s b) 0 0 (omega arith) in
    let is : kept_of 0 0 (pieces (drop s b)) ≡ h.0 = grind (arith, h.3) in
    let end = is-first (λ i. IsBlank (drop i b)) s (length b + 1) (s + h.0) (omega arith) (omega (arith, h.1)) (λ i from up blank.
    let same = kept-before (part s i b) (drop i b) blank in
    omega (arith, rw (← split-at b s i from) at same, kept-within (part s i b), length-take (i - s) (drop s b))) (rw drop-drop at h.2) in
    (s + h.0, end, ap (λ k. take k (drop s b)) (omega arith))

-- a byte that a search for a byte other than ASCII white space skips is ASCII white space
pub space-behind : (b : List ℕ) (from k : ℕ) → from ≤ k
    → ¬ (not_in (9 ∷ 10 ∷ 11 ∷ 12 ∷ 13 ∷ 32 ∷ []) (get_or (drop from b) (k - from) 0) ≡ true) → IsSpace (get_or b k 0)
unfolding is_in
space-behind b from k low none = grind (arith, get_or-drop, nat_tests)

-- such bytes are blank
spaces-blank : (ys : List ℕ) → ((k : ℕ) → k < length ys → IsSpace (get_or ys k 0)) → IsBlank ys
spaces-blank [] h = ([], All-nil _, refl)
spaces-blank (y ∷ ys) h =
    let white : IsWhite y × (y < 128) = grind (arith, nat_tests, h 0) in
    let rest = spaces-blank ys (λ k low. h (suc k) (omega arith)) in
    (y ∷ rest.0, All-cons IsWhite y rest.0 white.0 rest.1, rw (encode_ascii y white.1) (ap (λ text. y ∷ text) rest.2))

-- so a trim without them keeps the trimmed slice
pub IsTrimmedSlice-front : (b : List ℕ) (s n : ℕ) → s ≤ n → n ≤ length b → AreSpaces b n (length b)
    → IsTrimmedSlice b (record { start = s; bytes = trim_end_by is_whitespace (part s n b) })
IsTrimmedSlice-front b s n low high spaces =
    let front = part s n b in
    let rest = drop n b in
    let blank = spaces-blank rest (λ k l. grind (arith, get_or-drop, length-drop, spaces (n + k))) in
    let h = IsTrimmedSlice-trim_end b s (omega arith) in
    (h.0, h.1, sym (take-append-le _ front rest (kept-within front)) ∙ cc (kept-before front rest blank, split-at b s n low, h.2))
