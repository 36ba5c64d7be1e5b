-- What a template renders has no control characters.
use Rattle.std.proofs.Common.{◌≡◌, ◌≤◌, ◌<◌, ◌==◌, ◌||◌, refl, arith, ℕ, true, false, if◌then◌else◌}
use Rattle.std.proofs.lemmas.Bool.Decides.{nat_tests}
use Rattle.template.proofs.Allowed.{lacks-parts}
use Rattle.template.proofs.Lacks.{not-false, visible}
use Rattle.template.specs.Laws.{RendersNoControls}
use Rattle.template.specs.Clean.{is_seen}
use Rattle.template.specs.Shown.{allowed, is_escaped}

printable : (b : ℕ) → 32 ≤ b → b < 127 → visible is_escaped b ≡ true
printable b low high = grind (arith, nat_tests)

clean-allowed : (c : ℕ) → is_escaped c ≡ false → is_escaped (allowed c) ≡ false
clean-allowed c e =
    elim (c == 65534 || c == 65535) as (λ b. is_escaped (if b then 65533 else c) ≡ false) [ true ↦ refl | false ↦ e ]

pub renders_no_controls : RendersNoControls
renders_no_controls ps vs h = (lacks-parts is_escaped printable clean-allowed is_seen (λ c. not-false (is_escaped c)) ps vs h).is
