-- The longest end of lines that fits.
use Rattle.std.proofs.Common.{Global, String, ◌≡◌, ◌∙◌, ◌==◌, ◌<◌, ◌≤◌, ◌+◌, ◌++◌, ◌∷◌, [], ℕ, zero, suc, List, Bool, true, false, Some, add-one, ap, append_assoc, arith, cond, drop, length, length-append, map, refl, string_bytes, sym, unwrap_or}
use Rattle.std.specs.List.{find, range_with_len}
use Rattle.std.proofs.lemmas.Bool.Decides.{nat_tests}
use Rattle.std.proofs.lemmas.List.{map-append}
use Rattle.std.proofs.lemmas.List.Sums.{sum_by-cons}
use Rattle.test_report_run.specs.LongestEnd.{fits_without, joined, longest_end, size_of}

-- the first number of a range that passes, by the one before it
find-next : (p q : ℕ → Bool) (a n d : ℕ) → ((i : ℕ) → p (i + 1) ≡ q i)
    → unwrap_or (find p (range_with_len (a + 1) n)) (d + 1) ≡ unwrap_or (find q (range_with_len a n)) d + 1
find-next p q a zero d same = refl
find-next p q a (suc n) d same =
    rw (same a) (elim (q a) as (λ b. unwrap_or (cond b (Some (a + 1)) (find p (range_with_len (a + 1 + 1) n))) (d + 1)
    ≡ unwrap_or (cond b (Some a) (find q (range_with_len (a + 1) n))) d + 1) [
      | true ↦ refl
      | false ↦ find-next p q (a + 1) n d same
    ])

-- if not all lines fit, the first one goes
next-place : (most : ℕ) (x : List ℕ) (xs : List (List ℕ))
    → unwrap_or (find (fits_without most (x ∷ xs)) (range_with_len (0 + 1) (length xs))) (length xs + 1)
    ≡ unwrap_or (find (fits_without most xs) (range_with_len 0 (length xs))) (length xs) + 1
next-place most x xs = find-next (fits_without most (x ∷ xs)) (fits_without most xs) 0 (length xs) (length xs) (λ i. rw add-one refl)

longest-next : (most : ℕ) (x : List ℕ) (xs : List (List ℕ)) → most < length (joined (x ∷ xs)) → longest_end most (x ∷ xs) ≡ longest_end most xs
unfolding longest_end
longest-next most x xs more =
    let no : fits_without most (x ∷ xs) 0 ≡ false = grind (arith, nat_tests) in
    let next = next-place most x xs in
    let place : ℕ = unwrap_or (find (fits_without most xs) (range_with_len 0 (length xs))) (length xs) in
    ap (λ b. drop (unwrap_or (cond b (Some 0) (find (fits_without most (x ∷ xs)) (range_with_len (0 + 1) (length xs)))) (suc (length xs))) (x ∷ xs)) no
    ∙ ap (λ n. drop (unwrap_or (find (fits_without most (x ∷ xs)) (range_with_len (0 + 1) (length xs))) n) (x ∷ xs)) (sym (add-one (length xs)))
    ∙ ap (λ n. drop n (x ∷ xs)) next ∙ ap (λ n. drop n (x ∷ xs)) (add-one place)

-- if all lines fit, they stay
pub longest-all : (most : ℕ) (xs : List (List ℕ)) → length (joined xs) ≤ most → longest_end most xs ≡ xs
unfolding longest_end
longest-all most [] few = refl
longest-all most (x ∷ xs) few =
    let yes : fits_without most (x ∷ xs) 0 ≡ true = grind (arith, nat_tests) in
    ap (λ b. drop (unwrap_or (cond b (Some 0) (find (fits_without most (x ∷ xs)) (range_with_len (0 + 1) (length xs)))) (suc (length xs))) (x ∷ xs)) yes

-- how many bytes lines and one more have
pub length-joined : (lines : List (List ℕ)) (line : List ℕ) → length (joined (lines ++ line ∷ [])) ≡ size_of lines + length line
length-joined [] line = omega arith
length-joined (x ∷ []) line = omega (arith, length-append x (10 ∷ line))
length-joined (x ∷ y ∷ lines) line =
    omega (arith, sum_by-cons (λ l. length l + 1) x (y ∷ lines), length-append x (10 ∷ joined (y ∷ lines ++ line ∷ [])), length-joined (y ∷ lines) line)

-- the first of some lines goes, if these and one more do not fit
pub longest-drop : (most : ℕ) (lines : List (List ℕ)) (line : List ℕ) → most < size_of lines + length line → length line ≤ most
    → longest_end most (drop 1 lines ++ line ∷ []) ≡ longest_end most (lines ++ line ∷ [])
longest-drop most [] line more few = absurd (omega arith)
longest-drop most (x ∷ lines) line more few =
    sym (longest-next most x (lines ++ line ∷ []) (omega (arith, length-joined (x ∷ lines) line)))

-- one more line after others
pub line-more : (lines after : List (String Global)) (kept : String Global) (line : List ℕ) → string_bytes kept ≡ line → after ≡ lines ++ kept ∷ []
    → map string_bytes after ≡ map string_bytes lines ++ line ∷ []
line-more lines after kept line is more = rw (more, map-append string_bytes lines (kept ∷ []), is) refl

-- one more line after those that are joined
joined-more : (x : List ℕ) (lines : List (List ℕ)) (line : List ℕ) → joined (x ∷ lines ++ line ∷ []) ≡ joined (x ∷ lines) ++ (10 ∷ line)
joined-more x [] line = refl
joined-more x (y ∷ lines) line =
    ap (λ l. x ++ (10 ∷ l)) (joined-more y lines line) ∙ sym (append_assoc x (10 ∷ joined (y ∷ lines)) (10 ∷ line))

pub text-more : (lines : List (List ℕ)) (line text : List ℕ) (is_first : Bool) (n : ℕ) → is_first ≡ (n == 0) → n ≡ length lines → text ≡ joined lines
    → joined (lines ++ line ∷ []) ≡ cond is_first text (text ++ 10 ∷ []) ++ line
text-more [] line text is_first n is size same = rw (is, size, same) refl
text-more (x ∷ lines) line text is_first n is size same =
    let no : is_first ≡ false = grind (arith, nat_tests) in
    rw (no, same, joined-more x lines line) (sym (append_assoc (joined (x ∷ lines)) (10 ∷ []) line))
