-- Bytes that are read and written in pieces.
use Rattle.std.proofs.Common.{◌≡◌, ℕ, List, ◌++◌, take, drop, ap, sym, ◌∙◌, append_assoc}
use Rattle.std.specs.Prelude.{Option}
use Rattle.std.specs.Io.KnownBytes.{Appends}
use Rattle.std.proofs.KnownBytes.{Appends-trans}
use Rattle.std.proofs.lemmas.List.{take-append-drop}

-- the known bytes have grown by the text without its rest
pub record Writing (old new : Option (List ℕ)) (text rest : List ℕ) : Type 0 where
  pub start : List ℕ
  pub divided : text ≡ start ++ rest
  pub written : Appends old new start

-- the front of the rest was written
pub writing_more : (old mid new : Option (List ℕ)) (text rest : List ℕ) (n : ℕ) → Writing old mid text rest → Appends mid new (take n rest)
    → Writing old new text (drop n rest)
writing_more old mid new text rest n so_far more = record {
  start = so_far.start ++ take n rest;
  divided = so_far.divided ∙ ap (λ x. so_far.start ++ x) (sym (take-append-drop n rest)) ∙ sym (append_assoc so_far.start (take n rest) (drop n rest));
  written = Appends-trans old mid new so_far.start (take n rest) so_far.written more;
}
