-- The first taken head is the first head.
use Rattle.output_slice.proofs.Words.{◌≡◌, ℕ, ◌+◌, ◌-◌, ◌≤◌, List, [], ◌∷◌, length, arith, refl, ap, sym, ◌∙◌, Some, None, HeadSpan, IsHead, IsTaken, IsOpenedHeadEnd, IsNextQuote, NoQuoteBetween}
use Rattle.output_slice.specs.First.{IsFirstTaken}
use Rattle.output_slice.proofs.HeadLemmas.{head-letters, head-same}
use Rattle.output_slice.proofs.TakenLemmas.{IsTaken-exists, Leftmost, leftmost-taken}

-- no head starts before this place
pub record NoneBefore (b : List ℕ) (place : ℕ) : Type 0 where
  pub late : (s e : ℕ) → IsHead b s e → place ≤ s

pub none-first : (b : List ℕ) → NoneBefore b 0
none-first b = record { late = λ s e head. omega arith }

-- no head that starts at or after a place starts before the `thread ` of the next quote
starts-late : (b : List ℕ) (place q s e : ℕ) → NoQuoteBetween b place q → place ≤ s → IsHead b s e → q ≤ s + 7
starts-late b place q s e quiet late head = grind arith

-- a quote after which no head has its name
pub none-more : (b : List ℕ) (place q : ℕ) → NoneBefore b place → IsNextQuote b place (Some q) → IsOpenedHeadEnd b place q None → NoneBefore b (q + 1)
none-more b place q h is none = record {
  late = λ s e head.
      let from = h.late s e head in
      grind (arith, starts-late b place q s e is.0.before from head, head-letters b s e q head, none s e from);
}

-- no quote is left
no-head : (b : List ℕ) (place : ℕ) → NoneBefore b place → IsNextQuote b place None → (s e : ℕ) → ¬ IsHead b s e
no-head b place h is s e head = omega (arith, starts-late b place (length b) s e is (h.late s e head) head, head.opening.fits)

abbrev span : ℕ → ℕ → HeadSpan
span s e = record { start = s; stop = e }

-- the first of a list that is taken leftmost first
first-of : (b : List ℕ) (x : HeadSpan) → IsHead b x.start x.stop → ((s e : ℕ) → IsHead b s e → x.start ≤ s)
    → (taken : List HeadSpan) → IsTaken b taken → Leftmost b 0 taken → IsFirstTaken b (Some x)
first-of b x head least [] is none = absurd (none x.start x.stop (omega arith) head)
first-of b x head least (y ∷ ys) is left =
    let at : y.start ≡ x.start = omega (arith, left.0.least x.start x.stop (omega arith) head, least y.start y.stop left.0.head) in
    let ends : x.stop ≡ y.stop = head-same b x.start x.stop y.stop head (rw at at left.0.head) in (
      y ∷ ys,
      is,
      ap (λ s. Some (span s x.stop)) (sym at) ∙ ap (λ e. Some (span y.start e)) ends,
    )

none-of : (b : List ℕ) → ((s e : ℕ) → ¬ IsHead b s e) → (taken : List HeadSpan) → IsTaken b taken → Leftmost b 0 taken → IsFirstTaken b None
none-of b none [] is left = ([], is, refl)
none-of b none (y ∷ ys) is left = absurd (none y.start y.stop left.0.head)

pub first-found : (b : List ℕ) (place q e : ℕ) → NoneBefore b place → IsNextQuote b place (Some q) → IsOpenedHeadEnd b place q (Some e)
    → IsFirstTaken b (Some (record { start = q - 7; stop = e }))
first-found b place q e h is opened =
    let some = IsTaken-exists b in
    first-of b (record { start = q - 7; stop = e }) opened.1
    (λ s f head. omega (arith, starts-late b place q s f is.0.before (h.late s f head) head, opened.0))
    some.0 some.1 (leftmost-taken b some.0 some.1)

pub first-none : (b : List ℕ) (place : ℕ) → NoneBefore b place → IsNextQuote b place None → IsFirstTaken b None
first-none b place h is =
    let some = IsTaken-exists b in none-of b (no-head b place h is) some.0 some.1 (leftmost-taken b some.0 some.1)
