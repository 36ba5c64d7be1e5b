-- The copy says the same.
use Rattle.std.proofs.Common.{◌≡◌, ◌∷◌, [], Global, List, String, map, refl, rules, string_bytes}
use Rattle.std.specs.List.{AllZip}
use Rattle.test_report_run_notes.specs.Note.{text_view}
use Rattle.test_report_run.proofs.over.copy_of.Goals as goal

same-texts : (xs ys : List (String Global)) → AllZip (λ x y. string_bytes y ≡ string_bytes x) xs ys → map string_bytes ys ≡ map string_bytes xs
same-texts [] [] same = refl
same-texts [] (y ∷ ys) same = absurd same
same-texts (x ∷ xs) [] same = absurd same
same-texts (x ∷ xs) (y ∷ ys) same = rw (same.0, same-texts xs ys same.1) refl

pub returns : goal.returns
returns c =
    let cause : text_view c.in_ok-clone.field-0 ≡ text_view c.args.crash.now.cause = search rules in
    let last = same-texts c.args.crash.now.last.items c.in_ok-clone-3.field-0.items c.in_ok-clone-3.ensures.cases.0 in
    rw (cause, last, c.in_ok-clone-2.ensures.cases) refl
