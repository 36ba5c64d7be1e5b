-- Places by which values are kept in the order of a number, and of their arrival.
use Rattle.std.specs.Prelude.{◌≡◌, ◌<◌, ℕ, List}
use Rattle.std.specs.List.{All}
use Rattle.std.specs.Ordering.{nat_cmp, ordering_then}
use Rattle.std.specs.declared.cmp.Ordering.{Ordering}

-- each of these values is at its own number, and at a number below n
abbrev pub IsPlaced : {X : Type 0} → (X → ℕ) → ℕ → List ((ℕ × ℕ) × X) → Type 0
IsPlaced own n entries = All (λ e. (e.0.0 ≡ own e.1) × (e.0.1 < n)) entries

-- the order of places
abbrev pub place_cmp : ℕ × ℕ → ℕ × ℕ → Ordering
place_cmp a b = ordering_then (nat_cmp a.0 b.0) (nat_cmp a.1 b.1)
