-- The markers of slices. Output without the marker has no slice of that kind.
use Rattle.std.specs.Prelude.{codes, ℕ, ◌≤◌, List, length, Option, IfSome}
use Rattle.std.specs.Borrow.{Bor}
use Rattle.bstr.specs.Find.{OccursAt}

-- The marker does not begin in b at or after p.
abbrev pub IsQuietFrom : List ℕ → List ℕ → ℕ → Type 0
IsQuietFrom b sign p = (i : ℕ) → p ≤ i → ¬ OccursAt b sign i

-- The note that a test did not panic does not begin at or after p in a captured stream.
abbrev pub IsNoteQuiet : Option (Bor (List ℕ)) → ℕ → Type 0
IsNoteQuiet out p = IfSome out (λ b. IsQuietFrom b.now (codes "note: test did not panic as expected") p)

-- No marker begins at or after these offsets: that of an error in standard error, and the last words of the note in standard
-- output.
pub record AreQuiet (out err : List ℕ) (out_end err_end : ℕ) : Type 0 where
  pub out_within : out_end ≤ length out
  pub err_within : err_end ≤ length err
  pub error : IsQuietFrom err (codes "\nError: ") err_end
  pub note : IsQuietFrom out (codes "panic as expected") out_end
