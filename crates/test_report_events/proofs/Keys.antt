-- The last key of a time.
use Rattle.std.proofs.Common.{◌≡◌, ◌∙◌, ◌+◌, ◌-◌, ◌<◌, ◌≤◌, ℕ, List, [], ◌∷◌, ◌++◌, Bool, true, false, None, Some, codes, length, take, drop, get_or, get_or-append-add, get_or-take, length-append, length-take, append-nil, take-append-drop, sym, ap, arith, eqb-true}
use Rattle.std.proofs.Math.ListN.{get_or-append}
use Rattle.std.proofs.Math.Logic.{⊎_elim}
use Rattle.std.proofs.lemmas.Bool.{cases_lt, false≢true}
use Rattle.std.proofs.lemmas.Bool.Decides.{Decides-eqb}
use Rattle.std.proofs.lemmas.List.{drop_all, take-take}
use Rattle.std.proofs.lemmas.List.Prefix.{at_from_reads}
use Rattle.std.proofs.lemmas.Slice.Eq.{ends_is}
use Rattle.std.specs.List.{ends_with}
use Rattle.std.specs.Prelude.{◌==◌, slice_index}
use Rattle.bstr.specs.Find.{FindsLastNeedle, IsLastByte, OccursAt, is_byte}
use Rattle.test_report_events.specs.Time.{time_key}

-- the text of the key, before its colon
abbrev pub key : List ℕ
key = codes "\"exec_time\""

key-reads : (j : ℕ) → j < 11 → slice_index time_key j ≡ slice_index key j
key-reads j lt = get_or-append key (58 ∷ []) 0 j lt

module _ (line rest : List ℕ) (fits : length rest ≤ length line) (is : rest ≡ take (length rest) line) where
  -- the rest has the bytes of the line
  same-byte : (j : ℕ) → j < length rest → slice_index rest j ≡ slice_index line j
  same-byte j low = ap (λ l. get_or l j 0) is ∙ get_or-take (length rest) line j 0 low

  module _ (c : ℕ) (low : c < length rest) where
    length-front : length (take c rest) ≡ c
    length-front = grind (arith, length-take)

    -- a key and a colon
    pub key-here : (front : List ℕ) → take c rest ≡ front ++ key → slice_index rest c ≡ 58 → OccursAt line time_key (c - 11)
    key-here front ends colon =
        let size : length front + 11 ≡ c = sym (length-append front key) ∙ (ap length (sym ends) ∙ length-front) in
        record { fits = omega (arith, size); reads = λ j small. ⊎_elim (before j size) (after j small size) (cases_lt j 11) }
      where
        before : (j : ℕ) → length front + 11 ≡ c → j < 11 → slice_index line (c - 11 + j) ≡ slice_index time_key j
        before j size lt =
            let at : c - 11 + j ≡ length front + j = omega (arith, size) in
            rw at (sym (same-byte (length front + j) (omega (arith, size))) ∙ (sym (get_or-take c rest (length front + j) 0 (omega (arith, size)))
            ∙ (ap (λ l. get_or l (length front + j) 0) ends ∙ (get_or-append-add front key j 0 ∙ sym (key-reads j lt)))))

        after : (j : ℕ) → j < 12 → length front + 11 ≡ c → 11 ≤ j → slice_index line (c - 11 + j) ≡ slice_index time_key j
        after j small size le =
            let is_last : j ≡ 11 = omega arith in
            let at : c - 11 + 11 ≡ c = omega (arith, size) in
            rw is_last (ap (slice_index line) at ∙ (sym (same-byte c low) ∙ colon))

    -- what comes before the colon of a key ends with its text
    pub key-before : (k : ℕ) → OccursAt line time_key k → k + 11 ≡ c → take c rest ≡ take k (take c rest) ++ key
    key-before k h at =
        let s = take c rest in
        let d = at_from_reads 0 s key k (omega (arith, length-front))
        (λ j lt. get_or-take c rest (k + j) 0 (omega arith) ∙ (same-byte (k + j) (omega arith) ∙ (h.reads j (omega arith) ∙ key-reads j lt))) in
        let e : drop (k + 11) s ≡ [] = drop_all (k + 11) s (omega (arith, length-front)) in
        sym (take-append-drop k s) ∙ ap (λ l. take k s ++ l) (d ∙ (ap (λ l. key ++ l) e ∙ append-nil key))

    -- a key ends at the last colon, or before it
    pub key-by : IsLastByte (is_byte 58) rest (Some c) → (k : ℕ) → OccursAt line time_key k → k + 12 ≤ length rest → k + 11 ≤ c
    key-by last k h high = ⊎_elim (λ later. absurd (last.0.after (k + 11) (omega arith) (omega arith) colon)) (λ le. omega arith) (cases_lt c (k + 11))
      where
        colon : (slice_index rest (k + 11) == 58) ≡ true
        colon = ap (λ b. b == 58) (same-byte (k + 11) (omega arith) ∙ h.reads 11 (omega arith))

    -- a line whose last key ends there
    pub last-key : (r : Bool) → IsLastByte (is_byte 58) rest (Some c) → ((k : ℕ) → OccursAt line time_key k → k + 12 ≤ length rest)
        → r ≡ ends_with (λ a b. a == b) (take c rest) key → r ≡ true → FindsLastNeedle line time_key (Some (c - 11))
    last-key r last by value same =
        let here = key-here _ ((ends_is Decides-eqb (take c rest) key r value).0 same) (eqb-true _ _ last.1) in (
          record {
            low = omega arith;
            high = omega (arith, here.fits);
            after = λ k later end at. absurd (omega (arith, key-by last k at (by k at)));
          },
          here,
        )

    -- and a line whose last key ends before it
    pub earlier-key : (r : Bool) → IsLastByte (is_byte 58) rest (Some c) → ((k : ℕ) → OccursAt line time_key k → k + 12 ≤ length rest)
        → r ≡ ends_with (λ a b. a == b) (take c rest) key → r ≡ false → (k : ℕ) → OccursAt line time_key k → k + 12 ≤ c
    earlier-key r last by value other k at =
        ⊎_elim (λ lt. omega arith)
        (λ le. absurd (false≢true (sym other ∙ (ends_is Decides-eqb (take c rest) key r value).1 (take k (take c rest))
        (key-before k at (omega (arith, key-by last k at (by k at))))))) (cases_lt (k + 11) c)

    pub shorter : take c rest ≡ take (length (take c rest)) line
    shorter = ap (take c) is ∙ (take-take c (length rest) line (omega arith) ∙ ap (λ n. take n line) (sym length-front))

  -- without a colon there is no key
  pub no-key : IsLastByte (is_byte 58) rest None → ((k : ℕ) → OccursAt line time_key k → k + 12 ≤ length rest) → FindsLastNeedle line time_key None
  no-key none by k low high at =
      none (k + 11) (omega arith) (omega (arith, by k at)) (ap (λ b. b == 58) (same-byte (k + 11) (omega (arith, by k at)) ∙ at.reads 11 (omega arith)))
