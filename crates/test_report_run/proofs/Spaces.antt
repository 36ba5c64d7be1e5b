-- A text without the spaces at its front.
use Rattle.std.proofs.Common.{◌≡◌, ◌∙◌, ◌∷◌, ◌==◌, ◌+◌, true, false, eqb-true, IfSome, not, refl, sym, ap, arith, ℕ, suc, List, [], Option, Some, None, drop, inl, inr}
use Rattle.std.proofs.Math.Logic.{◌⊎◌}
use Rattle.std.proofs.lemmas.Bool.{cases_Bool}
use Rattle.std.specs.List.{position_or_len}
use Rattle.std.specs.Str.Pattern.{CutsPrefixes, FindsCharPrefix, IsTrimStartMatches}
use Rattle.test_report_events.specs.Time.{without_spaces}

space-first : (text : List ℕ) → without_spaces (32 ∷ text) ≡ without_spaces text
space-first text =
    let one : 1 + position_or_len (λ b. not (b == 32)) text ≡ suc (position_or_len (λ b. not (b == 32)) text) = omega arith in
    ap (λ n. drop n (32 ∷ text)) one

same-cut : (ns : List ℕ) (text cut : List ℕ) → CutsPrefixes (FindsCharPrefix 32) text ns cut → without_spaces text ≡ without_spaces cut
unfolding lib.Utf8.encode
same-cut [] text cut h = ap without_spaces (sym h)
same-cut (n ∷ ns) text cut (rest, cuts, found, is) =
    let first : rest ≡ 32 ∷ cut = found.split ∙ ap (λ t. 32 ∷ t) (sym is) in
    same-cut ns text rest cuts ∙ (ap without_spaces first ∙ space-first cut)

no-space : (text : List ℕ) → ((rest : List ℕ) → ¬ (text ≡ 32 ∷ rest)) → without_spaces text ≡ text
no-space [] none = refl
no-space (b ∷ text) none = spaces (cases_Bool (b == 32))
  where
    spaces : ((b == 32) ≡ true) ⊎ ((b == 32) ≡ false) → without_spaces (b ∷ text) ≡ b ∷ text
    spaces (inl is) = absurd (none text (ap (λ x. x ∷ text) (eqb-true b 32 is)))
    spaces (inr is) = let none : position_or_len (λ x. not (x == 32)) (b ∷ text) ≡ 0 = rw is refl in ap (λ n. drop n (b ∷ text)) none

pub trimmed : (text cut : List ℕ) → IsTrimStartMatches (FindsCharPrefix 32) text cut → cut ≡ without_spaces text
unfolding lib.Utf8.encode
trimmed text cut h = sym (same-cut h.0.0 text cut h.0.1 ∙ no-space cut (whole h.1.0 h.1.1 h.1.2))
  where
    whole : (found : Option ℕ) → FindsCharPrefix 32 cut found → IfSome found (λ n. n ≡ 0) → (rest : List ℕ) → ¬ (cut ≡ 32 ∷ rest)
    whole None none empty rest is = none rest is
    whole (Some n) here empty rest is = omega (arith, here.ends, empty)
