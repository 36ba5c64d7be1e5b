-- A heading or a failure at the end of a text.
use Rattle.std.proofs.Common.{◌≡◌, ◌∙◌, ◌∷◌, ◌==◌, ◌+◌, true, false, eqb-true, IfSome, not, refl, sym, ap, arith, ℕ, suc, List, [], Option, Some, None, codes, drop, inl, inr, subst}
use Rattle.std.proofs.Math.Logic.{◌⊎◌, ⊎_elim}
use Rattle.std.proofs.lemmas.Bool.{cases_Bool}
use Rattle.std.specs.List.{position_or_len}
use Rattle.std.specs.Str.Pattern.{CutsPrefixes, FindsCharPrefix, IsTrimStartMatches}
use Rattle.bstr.specs.Find.{OccursAt}
use Rattle.test_report_events.proofs.LastAt.{one-last}
use Rattle.test_report_events.specs.Cargo.{CargoSays, IsHeading, failure_of}
use Rattle.test_report_events.specs.Event.{EventView, Prints}
use Rattle.test_report_events.specs.Line.{EndSays, EndsWithFailure, EndsWithHeading, HeadingBegins, IsLastAt, TextSays}
use Rattle.test_report_events.specs.Plain.{line_text}
use Rattle.test_report_events.specs.Table.{CargoContents, FindsEnd}
use Rattle.test_report_events.specs.Time.{without_spaces}
use Rattle.test_report_events.specs.declared.text.CargoEnd.{CargoEnd}

-- a text without the spaces at its front
space-first : (text : List ℕ) → without_spaces (32 ∷ text) ≡ without_spaces text
space-first text =
    let one : 1 + position_or_len (λ b. not (b == 32)) text ≡ suc (position_or_len (λ b. not (b == 32)) text) = omega arith in
    ap (λ n. drop n (32 ∷ text)) one

same-cut : (ns : List ℕ) (text cut : List ℕ) → CutsPrefixes (FindsCharPrefix 32) text ns cut → without_spaces text ≡ without_spaces cut
unfolding lib.Utf8.encode
same-cut [] text cut h = ap without_spaces (sym h)
same-cut (n ∷ ns) text cut (rest, cuts, found, is) =
    let first : rest ≡ 32 ∷ cut = found.split ∙ ap (λ t. 32 ∷ t) (sym is) in
    same-cut ns text rest cuts ∙ (ap without_spaces first ∙ space-first cut)

no-space : (text : List ℕ) → ((rest : List ℕ) → ¬ (text ≡ 32 ∷ rest)) → without_spaces text ≡ text
no-space [] none = refl
no-space (b ∷ text) none = spaces (cases_Bool (b == 32))
  where
    spaces : ((b == 32) ≡ true) ⊎ ((b == 32) ≡ false) → without_spaces (b ∷ text) ≡ b ∷ text
    spaces (inl is) = absurd (none text (ap (λ x. x ∷ text) (eqb-true b 32 is)))
    spaces (inr is) = let none : position_or_len (λ x. not (x == 32)) (b ∷ text) ≡ 0 = rw is refl in ap (λ n. drop n (b ∷ text)) none

pub trimmed : (text cut : List ℕ) → IsTrimStartMatches (FindsCharPrefix 32) text cut → cut ≡ without_spaces text
unfolding lib.Utf8.encode
trimmed text cut h = sym (same-cut h.0.0 text cut h.0.1 ∙ no-space cut (whole h.1.0 h.1.1 h.1.2))
  where
    whole : (found : Option ℕ) → FindsCharPrefix 32 cut found → IfSome found (λ n. n ≡ 0) → (rest : List ℕ) → ¬ (cut ≡ 32 ∷ rest)
    whole None none empty rest is = none rest is
    whole (Some n) here empty rest is = omega (arith, here.ends, empty)

module _ (plain : List ℕ) where
  pub no_heading_end : (text : List ℕ) (at : ℕ) → IsLastAt (HeadingBegins plain) at → text ≡ without_spaces (drop at plain)
      → ((suite : List ℕ) (path : Option (List ℕ)) → ¬ IsHeading text suite path) → (k : ℕ) (e : EventView) → ¬ EndsWithHeading plain k e
  no_heading_end text at last is none k e h =
      let same = one-last (HeadingBegins plain) k at h.0 last in
      none h.1.0 h.1.1 (subst (λ t. IsHeading t h.1.0 h.1.1) (ap (λ n. without_spaces (drop n plain)) same ∙ sym is) h.1.2)

  pub no_failure_end : (text : List ℕ) (at : ℕ) → IsLastAt (OccursAt plain (codes "error: ")) at → text ≡ drop at plain → None ≡ failure_of text
      → (k : ℕ) (e : EventView) → ¬ EndsWithFailure plain k e
  no_failure_end text at last is none k e h =
      let same = one-last (OccursAt plain (codes "error: ")) k at h.0 last in
      let both = none ∙ (ap failure_of (is ∙ ap (λ n. drop n plain) (sym same)) ∙ h.1.1) in cc

  pub end_or_failure : (found : Option CargoEnd) → ((at : ℕ) (e : EventView) → ¬ EndsWithHeading plain at e)
      → FindsEnd (EndsWithFailure plain) plain found → FindsEnd (EndSays plain) plain found
  end_or_failure None none h = λ at e. ⊎_elim (none at e) (λ k. h at e k.1)
  end_or_failure (Some end) none h = (h.0, h.1, h.2, inr (none, h.3))

-- what a text says
module _ (line shown plain : List ℕ) (is : shown ≡ line_text line) where
  pub contents_say : (before : Option EventView) (e : EventView) → CargoContents shown plain (Some (before, e)) → TextSays line plain before e
  contents_say None e h = inl (refl, subst (λ s. CargoSays s (without_spaces plain) e) is h)
  contents_say (Some before) e h = inr (
    (λ other k. h.0 other (subst (λ s. CargoSays s (without_spaces plain) other) (sym is) k)),
    inl (h.1.0, h.1.1, ap (λ x. Some x) h.1.2),
  )

  pub print_says : CargoContents shown plain None → TextSays line plain None (Prints shown plain)
  print_says h = inr (
    (λ other k. h.0 other (subst (λ s. CargoSays s (without_spaces plain) other) (sym is) k)),
    inr (h.1, refl, ap (λ s. Prints s plain) is),
  )
