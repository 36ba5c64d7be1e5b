-- The last offset with a property.
use Rattle.std.proofs.Common.{◌≡◌, ◌+◌, ℕ, ◌<◌, List, ◌++◌, Option, Some, None, MatchOption, inl, inr, arith, drop, length, length-append, length-drop, max, ap, subst}
use Rattle.std.proofs.Math.Logic.{⊎_elim, ◌⊎◌}
use Rattle.std.proofs.lemmas.Bool.{cases_lt}
use Rattle.std.proofs.lemmas.List.Prefix.{at_from_reads, at_reads}
use Rattle.std.specs.Str.Pattern.{MatchBeginsAt, RFindsText}
use Rattle.bstr.specs.Find.{FindsLastNeedle, OccursAt}
use Rattle.test_report_events.specs.Line.{IsLastAt}
use Rattle.test_report_events.specs.Table.{IsLastFound}

-- it is one offset
pub one-last : (P : ℕ → Type 0) (a b : ℕ) → IsLastAt P a → IsLastAt P b → a ≡ b
one-last P a b h k =
    ⊎_elim (λ lt. absurd (h.last b lt k.holds))
    (λ le. ⊎_elim (λ lt. absurd (k.last a lt h.holds)) (λ ge. omega arith) (cases_lt b a)) (cases_lt a b)

-- of two properties
module _ (P Q : ℕ → Type 0) where
  pub last-of-both : (m n k : ℕ) → IsLastAt P m → IsLastAt Q n → k ≡ max m n → IsLastAt (λ i. P i ⊎ Q i) k
  last-of-both m n k a b is = record {
    holds = ⊎_elim
        (λ lt. inr (subst Q (omega (arith, is)) b.holds))
        (λ le. inl (subst P (omega (arith, is)) a.holds))
        (cases_lt m n);
    last = λ i later. ⊎_elim (a.last i (omega (arith, is))) (b.last i (omega (arith, is)));
  }

  pub only-first : (m : ℕ) → IsLastAt P m → ((k : ℕ) → ¬ Q k) → IsLastAt (λ i. P i ⊎ Q i) m
  only-first m a b = record { holds = inl a.holds; last = λ i later. ⊎_elim (a.last i later) (b i) }

  pub only-second : (found : Option ℕ) → ((k : ℕ) → ¬ P k) → IsLastFound Q found → IsLastFound (λ i. P i ⊎ Q i) found
  only-second None a b = λ k. ⊎_elim (a k) (b k)
  only-second (Some n) a b = record { holds = inr b.holds; last = λ i later. ⊎_elim (a i) (b.last i later) }

-- a text in bytes
pub needle-found : (line needle : List ℕ) (found : Option ℕ) → FindsLastNeedle line needle found → IsLastFound (OccursAt line needle) found
needle-found line needle None h = λ k at. h k (omega arith) (omega (arith, at.fits)) at
needle-found line needle (Some m) h = record {
  holds = h.1;
  last = λ k later at. h.0.after k (omega arith) (omega (arith, at.fits)) at;
}

-- a text in a text
occurs : (line needle rest : List ℕ) (at : ℕ) → 0 < length needle → drop at line ≡ needle ++ rest → OccursAt line needle at
occurs line needle rest at some is = record {
  fits = let size = ap length is in omega (arith, size, length-append needle rest, length-drop at line);
  reads = at_reads 0 line needle at rest is;
}

split : (line needle : List ℕ) (at : ℕ) → OccursAt line needle at → drop at line ≡ needle ++ drop (at + length needle) line
split line needle at h = at_from_reads 0 line needle at h.fits h.reads

pub text-found : (line needle : List ℕ) (found : Option ℕ) → 0 < length needle
    → MatchOption found (RFindsText needle line None) (MatchBeginsAt (RFindsText needle) line) → IsLastFound (OccursAt line needle) found
text-found line needle None some h = λ k at. h k (omega (arith, at.fits)) _ (split line needle k at)
text-found line needle (Some m) some h = record {
  holds = occurs line needle _ m some h.1.1.split;
  last = λ k later at. h.1.0 k later (omega (arith, at.fits)) _ (split line needle k at);
}
