-- Each slice is a part of its parent and not empty, and is the only one.
use Rattle.output_slice.proofs.Words.{◌≡◌, ℕ, ◌+◌, List, [], ◌∷◌, ◌++◌, length, refl, sym, ap, subst, ◌∙◌, arith, All, Option, Some, None, IfSome, option_map, ◌<◌, get_or, drop, length-append, get_or-drop, length-take, ◌⊎◌, inl, inr, IsTrue, encode_utf8_all, get_or-append-add, get_or-take, length-take-le, All-contains, All-head, All-tail, Contains-append_right, same_Some, IsScalar, is_whitespace, get_or-append, get_or_past, nat_tests, concat-append, char_from_byte, IsFirst, part, HeadSpan, Slice, IsErrorStart, IsWidened, IsTrimmed, IsTrimmedSlice, IsPanicSlice, IsErrorSlice, IsNote, IsNoteLine, IsPart, AreLines, IsHead, slice_of, extract_of}
use Rattle.output_slice.specs.Extraction.{Extract, panic_slice, error_slice, note_line, OfStream, IsExtract, IsPartOf, LiesIn}
use Rattle.output_slice.specs.declared.subslice.ByteSubslice.{ByteSubslice}
use Rattle.output_slice.specs.declared.subslice.TestOutputErrorSlice.{TestOutputErrorSlice}
use Rattle.output_slice.specs.declared.subslice.TestOutputErrorSlice.TheVariants.{PanicMessage, ErrorStr, ShouldPanic}
use Rattle.output_slice.proofs.DivisionLemmas.{AreLines-same, length-concat}
use Rattle.output_slice.proofs.TakenLemmas.{IsLastTaken-same, IsLastTaken-head}
use Rattle.output_slice.proofs.TrimLemmas.{IsWidened-same}
use Rattle.output_slice.proofs.OccursLemmas.{length-part, get_or-part}

-- there is an `E` or a `t` at the offset
abbrev IsLetterAt : List ℕ → ℕ → Type 0
IsLetterAt b s = (get_or b s 0 ≡ 69) ⊎ (get_or b s 0 ≡ 116)

-- a text that begins in this way is not blank
not_blank : (cs bs : List ℕ) → IsLetterAt bs 0 → All (λ c. IsScalar c × IsTrue (is_whitespace c)) cs → bs ≡ encode_utf8_all cs → ⊥
not_blank [] bs letter all e = elim (rw e at letter) [ inl one ↦ omega arith | inr two ↦ omega arith ]
not_blank (c ∷ cs) bs letter all e = grind (arith, All-head, get_or_past, char_from_byte)

-- a trimmed slice that begins in this way is a part
trimmed-part : (b : List ℕ) (x : Slice) → IsTrimmedSlice b x → IsLetterAt b x.start → IsPart b x
trimmed-part b x h letter =
    let here : IsLetterAt (drop x.start b) 0 = grind (arith, get_or-drop) in
    let never = not_blank h.1.1.0 (drop x.start b) here h.1.1.1 in
    let longer : x.start < h.0 = grind arith in
    grind (arith, get_or-part, length-part)

-- there is an `E`, or the `t` of the head, at a widened start
widened-letter : (b : List ℕ) (s e t : ℕ) → IsHead b s e → IsWidened b s t → IsLetterAt b t
widened-letter b s e t head wide = grind (arith, get_or-take, length-take)

-- a panic slice is a part
pub IsPanicSlice-part : (b : List ℕ) (x : Slice) → IsPanicSlice b (Some x) → IsPart b x
IsPanicSlice-part b x p = trimmed-part b x p.3 (widened-letter b p.0.start p.0.stop x.start (IsLastTaken-head b p.0 p.1) p.2)

-- an error slice is a part
pub IsErrorSlice-part : (b : List ℕ) (x : Slice) → IsErrorSlice b (Some x) → IsPart b x
IsErrorSlice-part b x p = trimmed-part b x p.1 (inl (let first = p.0.1.1.reads 0 in grind arith))

-- a note line is a part: without its end it is at most two bytes shorter
pub IsNoteLine-part : (b : List ℕ) (x : Slice) → IsNoteLine b (Some x) → IsPart b x
IsNoteLine-part b x p =
    grind (arith, nat_tests, concat-append, get_or-append, get_or-append-add, get_or-take, length-append, length-concat, length-take-le, length-take)

-- a fact of each slice is a fact of the slice that is found
pub found-part : (Is : List ℕ → Option Slice → Type 0) → ((b : List ℕ) (x : Slice) → Is b (Some x) → IsPart b x)
    → (b : List ℕ) (found : Option ByteSubslice) → Is b (option_map slice_of found) → IfSome found (λ x. IsPart b (slice_of x))
found-part Is part b found p = grind (arith, part)

-- a fact of the slice of each stream's bytes is a fact of the slice of a stream
OfStream-part : (Is : List ℕ → Option Slice → Type 0) → ((b : List ℕ) (x : Slice) → Is b (Some x) → IsPart b x)
    → (stream : Option (List ℕ)) (x : Slice) → OfStream Is stream (Some x) → IsPartOf stream x
OfStream-part Is part stream x p = grind (arith, part)

-- an extraction lies in its stream
pub IsExtract-part : (out err : Option (List ℕ)) (found : Option TestOutputErrorSlice)
    → IsExtract out err (option_map extract_of found) → IfSome found (λ x. LiesIn out err (extract_of x))
IsExtract-part out err None p = tt
IsExtract-part out err (Some (PanicMessage x)) p = OfStream-part IsPanicSlice IsPanicSlice-part err (slice_of x) p
IsExtract-part out err (Some (ErrorStr x)) p = OfStream-part IsErrorSlice IsErrorSlice-part err (slice_of x) p.1
IsExtract-part out err (Some (ShouldPanic x)) p = OfStream-part IsNoteLine IsNoteLine-part out (slice_of x) p.2

-- there is one first offset
IsFirst-same : (P : ℕ → Type 0) (i j : ℕ) (x y : Option ℕ) → IsFirst P i j x → IsFirst P i j y → x ≡ y
IsFirst-same P i j x y g h = grind arith

-- trimming has one result
IsTrimmedSlice-same : (b : List ℕ) (x y : Slice) → x.start ≡ y.start → IsTrimmedSlice b x → IsTrimmedSlice b y → x ≡ y
IsTrimmedSlice-same b x y p g h =
    let ends : g.0 ≡ h.0 = same_Some g.0 h.0 (IsFirst-same _ _ _ (Some g.0) (Some h.0) (subst (λ s. IsTrimmed b s g.0) p g.1) h.1) in
    grind arith

-- a slice that is found is the only one, if two slices are the same and `None` excludes each slice
only-one : (Is : Option Slice → Type 0) → ((x y : Slice) → Is (Some x) → Is (Some y) → x ≡ y) → ((x : Slice) → Is None → Is (Some x) → ⊥)
    → (f g : Option Slice) → Is f → Is g → f ≡ g
only-one Is same apart None None p q = refl
only-one Is same apart None (Some y) p q = absurd (apart y p q)
only-one Is same apart (Some x) None p q = absurd (apart x q p)
only-one Is same apart (Some x) (Some y) p q = ap Some (same x y p q)

-- there is one panic slice
pub IsPanicSlice-same : (b : List ℕ) (f g : Option Slice) → IsPanicSlice b f → IsPanicSlice b g → f ≡ g
IsPanicSlice-same b = only-one (IsPanicSlice b) same (λ x p q. absurd (cc (IsLastTaken-same b None (Some q.0) p q.1))) where
  same : (x y : Slice) → IsPanicSlice b (Some x) → IsPanicSlice b (Some y) → x ≡ y
  same x y p q =
      let heads : p.0 ≡ q.0 = same_Some p.0 q.0 (IsLastTaken-same b (Some p.0) (Some q.0) p.1 q.1) in
      let starts = IsWidened-same b q.0.start x.start y.start (subst (λ (h : HeadSpan). IsWidened b h.start x.start) heads p.2) q.2 in
      IsTrimmedSlice-same b x y starts p.3 q.3

-- there is one error slice
pub IsErrorSlice-same : (b : List ℕ) (f g : Option Slice) → IsErrorSlice b f → IsErrorSlice b g → f ≡ g
IsErrorSlice-same b =
    let starts = IsFirst-same (IsErrorStart b) 0 (length b + 1) in
    only-one (IsErrorSlice b) (λ x y p q. IsTrimmedSlice-same b x y (same_Some x.start y.start (starts (Some x.start) (Some y.start) p.0 q.0)) p.1 q.1)
    (λ x p q. absurd (cc (starts None (Some x.start) p.0 q.0)))

-- there is one first element for which P holds
first-same : (P : List ℕ → Type 0) (xs ys : List (List ℕ)) (x y : List ℕ) (us vs : List (List ℕ)) → xs ++ x ∷ us ≡ ys ++ y ∷ vs
    → All (λ z. ¬ P z) xs → All (λ z. ¬ P z) ys → P x → P y → (xs ≡ ys) × (x ≡ y)
first-same P [] [] x y us vs e none one p q = (refl, cc)
first-same P [] (z ∷ zs) x y us vs e none one p q = absurd (All-head (λ w. ¬ P w) z zs one (subst P (cc) p))
first-same P (z ∷ zs) [] x y us vs e none one p q = absurd (All-head (λ w. ¬ P w) z zs none (subst P (cc) q))
first-same P (z ∷ zs) (w ∷ ws) x y us vs e none one p q =
    let tails : zs ++ x ∷ us ≡ ws ++ y ∷ vs = cc in
    let rest = first-same P zs ws x y us vs tails (All-tail (λ v. ¬ P v) z zs none) (All-tail (λ v. ¬ P v) w ws one) p q in
    (cc, rest.1)

-- if P holds for no element, there is no first one for which it holds
none-first : (P : List ℕ → Type 0) (all xs : List (List ℕ)) (x : List ℕ) (us : List (List ℕ)) → all ≡ xs ++ x ∷ us → All (λ z. ¬ P z) all → P x → ⊥
none-first P all xs x us e none p =
    let among = Contains-append_right xs (x ∷ us) x (0, omega arith, refl) in
    All-contains (λ z. ¬ P z) (xs ++ x ∷ us) x (rw e at none) among p

-- there is one note line
lines-one : (b : List ℕ) (xs ys : List (List ℕ)) → AreLines b xs → AreLines b ys → xs ≡ ys
lines-one b xs ys p q = AreLines-same b xs p ∙ sym (AreLines-same b ys q)

pub IsNoteLine-same : (b : List ℕ) (f g : Option Slice) → IsNoteLine b f → IsNoteLine b g → f ≡ g
IsNoteLine-same b = only-one (IsNoteLine b) same
    (λ x p q. none-first IsNote p.0 q.2.0 q.2.1 q.2.2 (lines-one b p.0 q.0 p.1 q.1 ∙ q.2.3) p.2 q.2.5) where
      same : (x y : Slice) → IsNoteLine b (Some x) → IsNoteLine b (Some y) → x ≡ y
      same x y p q =
          let whole = sym p.2.3 ∙ lines-one b p.0 q.0 p.1 q.1 ∙ q.2.3 in
          let first = first-same IsNote p.2.0 q.2.0 p.2.1 q.2.1 p.2.2 q.2.2 whole p.2.4 q.2.4 p.2.5 q.2.5 in
          grind arith

-- a fact of each stream's bytes is a fact of a stream
OfStream-same : (Is : List ℕ → Option Slice → Type 0) → ((b : List ℕ) (f g : Option Slice) → Is b f → Is b g → f ≡ g)
    → (stream : Option (List ℕ)) (f g : Option Slice) → OfStream Is stream f → OfStream Is stream g → f ≡ g
OfStream-same Is same stream f g p q = grind (arith, same)

module _ (out err : Option (List ℕ)) where
  -- there is one extraction
  pub IsExtract-same : (f g : Option Extract) → IsExtract out err f → IsExtract out err g → f ≡ g
  IsExtract-same None None p q = refl
  IsExtract-same (Some (panic_slice x)) (Some (panic_slice y)) p q = cc (OfStream-same IsPanicSlice IsPanicSlice-same err (Some x) (Some y) p q)
  IsExtract-same (Some (panic_slice x)) g p q = cc (OfStream-same IsPanicSlice IsPanicSlice-same err (Some x) None p q.0)
  IsExtract-same f (Some (panic_slice y)) p q = cc (OfStream-same IsPanicSlice IsPanicSlice-same err (Some y) None q p.0)
  IsExtract-same (Some (error_slice x)) (Some (error_slice y)) p q = cc (OfStream-same IsErrorSlice IsErrorSlice-same err (Some x) (Some y) p.1 q.1)
  IsExtract-same (Some (error_slice x)) g p q = cc (OfStream-same IsErrorSlice IsErrorSlice-same err (Some x) None p.1 q.1)
  IsExtract-same f (Some (error_slice y)) p q = cc (OfStream-same IsErrorSlice IsErrorSlice-same err (Some y) None q.1 p.1)
  IsExtract-same (Some (note_line x)) (Some (note_line y)) p q = cc (OfStream-same IsNoteLine IsNoteLine-same out (Some x) (Some y) p.2 q.2)
  IsExtract-same (Some (note_line x)) None p q = cc (OfStream-same IsNoteLine IsNoteLine-same out (Some x) None p.2 q.2)
  IsExtract-same None (Some (note_line y)) p q = cc (OfStream-same IsNoteLine IsNoteLine-same out (Some y) None q.2 p.2)
