-- Where a line is cut.
use Rattle.std.proofs.Common.{◌≡◌, ◌≤◌, ◌<◌, ℕ, zero, suc, List, true, false, refl, arith, if◌then◌else◌}
use Rattle.std.specs.Str.{IsCharBoundary}
use Rattle.std.proofs.lemmas.Bool.Decides.{nat_tests}
use Rattle.test_report_run_notes.specs.Texts.{floor_of, is_boundary}

-- the test says what it is called
boundary-test : (line : List ℕ) (i : ℕ) → IsCharBoundary line i → is_boundary line i ≡ true
boundary-test line i is = grind (arith, nat_tests, is.0, is.1)

test-boundary : (line : List ℕ) (i : ℕ) → is_boundary line i ≡ true → IsCharBoundary line i
test-boundary line i e = grind (arith, nat_tests, e)

-- the last place at which a line may be cut is where it is cut
pub floor-is : (line : List ℕ) (limit place : ℕ) → place ≤ limit → IsCharBoundary line place
    → ((i : ℕ) → place < i → i ≤ limit → ¬ IsCharBoundary line i) → place ≡ floor_of line limit
floor-is line zero place low is none = omega arith
floor-is line (suc n) place low is none =
    elim (is_boundary line (suc n)) as (λ b. is_boundary line (suc n) ≡ b → place ≡ (if b then suc n else floor_of line n)) [
      | true ↦ λ e. grind (arith, none (suc n), test-boundary line (suc n) e)
      | false ↦ λ e. floor-is line n place (grind (arith, boundary-test line (suc n), e)) is (λ i above below. none i above (omega arith))
    ] refl
