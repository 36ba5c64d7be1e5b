-- The parser, character by character.
use Rattle.std.proofs.Common.{◌≡◌, ◌∙◌, refl, sym, ap, arith, ℕ, ◌<◌, Bool, None, true, false, List, [], ◌∷◌, ◌++◌, length, map, not, reverse, vec_len, Vec, ◌==◌}
use Rattle.std.proofs.lemmas.List.{length-map, length-reverse, map-append, reverse-append}
use Rattle.std.proofs.lemmas.Bool.Decides.{nat_tests}
use Rattle.std.specs.Char.{encode_utf8}
use Rattle.std.specs.List.{fold}
use Rattle.std.specs.Str.{bytes_eq, chars}
use Rattle.std.specs.declared.alloc.Global.{Global}
use Rattle.template.proofs.Characters.{first-char}
use Rattle.template.specs.Parse.{Bad, InText, ParsedView, ParsingView, SectionView, all_over, close, parse_step, parsed, section_part, section_view, with_part, with_text}
use Rattle.template.specs.Template.{PartView}
use Rattle.template.specs.declared.parse.Section.{Section}

-- one more character is parsed
pub parse_more : (c : ℕ) (text rest : List ℕ) (s t all : ParsingView) → t ≡ parse_step s c → text ≡ encode_utf8 c ++ rest
    → fold parse_step s (chars text) ≡ all → fold parse_step t (chars rest) ≡ all
parse_more c text rest s t all step cut before =
    ap (λ x. fold parse_step x (chars rest)) step
    ∙ (ap (fold parse_step s) (sym (first-char c rest)) ∙ (ap (λ l. fold parse_step s (chars l)) (sym cut) ∙ before))

-- no more characters
pub parse_end : (text : List ℕ) (s all : ParsingView) → length text ≡ 0 → fold parse_step s (chars text) ≡ all → s ≡ all
unfolding chars
parse_end [] s all none is = is
parse_end (b ∷ text) s all none is = absurd (omega arith)

-- the sections with one more
pub sections_more : (xs ys : List Section) (x : Section) → ys ≡ xs ++ (x ∷ []) → reverse (map section_view ys) ≡ section_view x ∷ reverse (map section_view xs)
sections_more xs ys x is = rw (is, map-append, reverse-append) refl

-- what a test of two texts for a difference tells
differs : (b t : Bool) → t ≡ not b → t ≡ true → b ≡ false
differs true t e is = cc
differs false t e is = refl

equals : (b t : Bool) → t ≡ not b → t ≡ false → b ≡ true
equals true t e is = refl
equals false t e is = cc

module _ (p : ParsedView) (s : SectionView) (ss sections : List SectionView) (name opened : List ℕ) (test : Bool)
    (is : sections ≡ s ∷ ss) (text : opened ≡ s.name) (tests : test ≡ not (bytes_eq opened name)) where
  -- the end of another section
  pub close_other : test ≡ true → Bad ≡ close p sections name
  close_other other = rw (is, ← text, differs (bytes_eq opened name) test tests other) refl

  -- the end of the innermost section
  pub close_same : (part : PartView) → test ≡ false → part ≡ section_part s.for_each s.name p.parts
      → InText (with_part (record { sections = ss; parts = s.before; in_tag = p.in_tag }) part) [] ≡ close p sections name
  close_same part same e = rw (is, e, ← text, equals (bytes_eq opened name) test tests same) refl

-- no parts, if a section is not over
pub parsed_none : (p : ParsedView) (text : List ℕ) (sections : Vec Section Global) (test : Bool)
    → reverse (map section_view sections.items) ≡ (with_text p text).sections → test ≡ (vec_len sections == 0) → test ≡ false
    → None ≡ parsed (InText p text)
parsed_none p text sections test is tests some = none (by_text text is)
    (rw (length-reverse, length-map) (grind (arith, nat_tests, tests, some))) where
      by_text : (t : List ℕ) → reverse (map section_view sections.items) ≡ (with_text p t).sections → reverse (map section_view sections.items) ≡ p.sections
      by_text [] e = e
      by_text (b ∷ t) e = e

      none : {ss : List SectionView} → ss ≡ p.sections → 0 < length ss → None ≡ all_over p.sections (with_text p text).parts
      none {ss = []} e low = absurd (omega arith)
      none {ss = s ∷ ss} e low = rw (← e) refl
