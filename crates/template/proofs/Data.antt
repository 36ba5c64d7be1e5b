-- A value is read as data.
use Rattle.std.proofs.Common.{◌≡◌, ◌∙◌, refl, sym, ap, ℕ, ◌==◌, true, false, List, [], ◌∷◌, ◌++◌, append-nil, append_assoc}
use Rattle.std.proofs.Math.Logic.{⊎_elim}
use Rattle.std.proofs.lemmas.Bool.{false≢true}
use Rattle.std.proofs.lemmas.Bool.Decides.{eqb_tells}
use Rattle.std.proofs.lemmas.List.Sums.{fold-append}
use Rattle.std.specs.List.{flat_map, fold}
use Rattle.template.specs.Check.{bare, takes}
use Rattle.template.specs.Filled.{with_data}
use Rattle.template.specs.Reader.{Content, Place, Reading, Tag, Value, more_text, step, with_byte}
use Rattle.template.specs.Hole.{hole_text, markup, markup_byte}
use Rattle.template.specs.Shown.{shown}
use Rattle.template.specs.declared.hole.Hole.{Hole}
use Rattle.template.specs.declared.hole.Hole.TheVariants as hole

abbrev pub run : Reading → List ℕ → Reading
run = fold step

pub run-append : (s : Reading) (a b : List ℕ) → run s (a ++ b) ≡ run (run s a) b
run-append = fold-append step

pub run-more : (s t : Reading) (a b : List ℕ) → run s a ≡ t → run s (a ++ b) ≡ run t b
run-more s t a b h = run-append s a b ∙ ap (λ r. run r b) h

-- a byte is this one, or it is another
either : (P : ℕ → Type 0) (b k : ℕ) → P k → ((b == k) ≡ false → P b) → P b
either P b k same other = ⊎_elim (λ e. rw e.1 same) (λ n. other n.0) (eqb_tells b k)

-- in the value of an attribute
module _ (t : Tag) (name : List ℕ) where
  value-other : (b : ℕ) (value : List ℕ) → (b == 38) ≡ false → (b == 60) ≡ false → (b == 62) ≡ false → (b == 13) ≡ false → (b == 34) ≡ false
      → (b == 9) ≡ false → (b == 10) ≡ false → run (Value t name value) (markup_byte true b) ≡ Value t name (value ++ (b ∷ []))
  unfolding step
  value-other b value n38 n60 n62 n13 n34 n9 n10 =
      let e : markup_byte true b ≡ b ∷ [] = rw (n38, n60, n62, n13, n34, n9, n10) refl in rw e (rw (n34, n38, n60, n62, n9, n10, n13) refl)

  one-value : (value : List ℕ) (b : ℕ) → run (Value t name value) (markup_byte true b) ≡ Value t name (value ++ (b ∷ []))
  unfolding step
  one-value value b =
      let P = λ (b : ℕ). run (Value t name value) (markup_byte true b) ≡ Value t name (value ++ (b ∷ [])) in
      either P b 38 refl (λ n38. either P b 60 refl (λ n60. either P b 62 refl (λ n62. either P b 13 refl (λ n13. either P b 34 refl (λ n34.
      either P b 9 refl (λ n9. either P b 10 refl (λ n10. value-other b value n38 n60 n62 n13 n34 n9 n10)))))))

  all-value : (bytes value : List ℕ) → run (Value t name value) (flat_map (markup_byte true) bytes) ≡ Value t name (value ++ bytes)
  all-value [] value = ap (Value t name) (sym (append-nil value))
  all-value (b ∷ bytes) value =
      run-more (Value t name value) _ (markup_byte true b) (flat_map (markup_byte true) bytes) (one-value value b)
      ∙ (all-value bytes (value ++ (b ∷ [])) ∙ ap (Value t name) (append_assoc value (b ∷ []) bytes))

-- in a text
data-other : (b : ℕ) (p : Place) → (b == 38) ≡ false → (b == 60) ≡ false → (b == 62) ≡ false → (b == 13) ≡ false
    → run (Content p) (markup_byte false b) ≡ Content (more_text p b)
unfolding step
data-other b p n38 n60 n62 n13 = let e : markup_byte false b ≡ b ∷ [] = rw (n38, n60, n62, n13) refl in rw e (rw (n60, n38, n62, n13) refl)

one-data : (p : Place) (b : ℕ) → run (Content p) (markup_byte false b) ≡ Content (more_text p b)
unfolding step
one-data p b =
    let P = λ (b : ℕ). run (Content p) (markup_byte false b) ≡ Content (more_text p b) in
    either P b 38 refl (λ n38. either P b 60 refl (λ n60. either P b 62 refl (λ n62. either P b 13 refl (λ n13. data-other b p n38 n60 n62 n13))))

all-data : (bytes : List ℕ) (p : Place) → run (Content p) (flat_map (markup_byte false) bytes) ≡ Content (record p { trees = fold with_byte p.trees bytes })
all-data [] p = refl
all-data (b ∷ bytes) p = run-more _ _ (markup_byte false b) (flat_map (markup_byte false) bytes) (one-data p b) ∙ all-data bytes (more_text p b)

-- a value that may be here
pub data-read : (kind : Hole) (r : Reading) (text : List ℕ) → takes kind (bare r) ≡ true → run r (hole_text kind text) ≡ with_data r (shown text)
unfolding hole_text markup
data-read hole.Attribute (Value t name value) text h = all-value t name (shown text) value
data-read hole.Text (Content p) text h = all-data (shown text) p
data-read _ _ text h = absurd (false≢true h)

pub data-bare : (kind : Hole) (r : Reading) (text : List ℕ) → takes kind (bare r) ≡ true → bare (with_data r text) ≡ bare r
data-bare hole.Attribute (Value t name value) text h = refl
data-bare hole.Text (Content p) text h = refl
data-bare _ _ text h = absurd (false≢true h)
