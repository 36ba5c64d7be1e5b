-- The last prints that are kept.
use Rattle.std.proofs.Common.{◌≡◌, ◌<◌, ◌-◌, ◌∷◌, [], ℕ, suc, List, arith, filter, length, map, nat_le, refl}
use Rattle.std.specs.List.{remove}
use Rattle.std.proofs.lemmas.List.{length-map}
use Rattle.test_report_run.specs.Prints.{LastView, last_three, last_view}
use Rattle.test_report_run.specs.declared.prints.LastPrint.{LastPrint}

-- if there are more than three, the first one goes
pub three-next : (prints : List LastPrint) → 3 < length prints → last_three (map last_view (remove prints 0)) ≡ last_three (map last_view prints)
three-next [] more = absurd (omega arith)
three-next (p ∷ prints) more =
    let left : List LastView = map last_view prints in
    let size : length left ≡ length prints = length-map prints last_view in
    let less : suc (length left) - 3 ≡ suc (length left - 3) = omega arith in
    rw less refl

-- the lines of the prints from a place on
abbrev pub lines_from : ℕ → List LastPrint → List (List ℕ)
lines_from first prints = map (λ l. l.line) (filter (λ l. nat_le first l.place) (map last_view prints))
