-- The equality of two errors.
use Rattle.std.proofs.Common.{◌≡◌, ◌↔◌, ℕ, List, true, refl, ap}
use Rattle.std.specs.Cmp.Lexicographic.{pointwise}
use Rattle.std.specs.Str.{bytes_eq}
use Rattle.std.proofs.lemmas.Slice.Eq.{bytes_eq-Decides, slice_eq-Decides}
use Rattle.run_events_attempts.specs.ErrorChain.{ErrorChain, texts}

same_parts : (m n : List ℕ) (cs ds : List (List ℕ)) → m ≡ n → cs ≡ ds
    → let a : ErrorChain = record { message = m; causes = cs } in let b : ErrorChain = record { message = n; causes = ds } in a ≡ b
same_parts m n cs ds p q = cc

-- errors are the same if their texts compare as equal
pub same_chain : (a b : ErrorChain) → (pointwise bytes_eq (texts a) (texts b) ≡ true) ↔ (a ≡ b)
same_chain a b =
    let decides = slice_eq-Decides bytes_eq-Decides (texts a) (texts b) _ refl in (
      λ h. let same : texts a ≡ texts b = decides.0 h in same_parts a.message b.message a.causes b.causes (cc) (cc),
      λ same. decides.1 (ap texts same),
    )
