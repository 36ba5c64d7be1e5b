-- The order of the sub-runs of a repeated run.
use Rattle.std.specs.Prelude.{◌≡◌, ◌<◌, ◌≤◌, ◌⊎◌, ◌++◌, ℕ, List, Option, None, Some}
use Rattle.std.specs.Hash as fed
use Rattle.std.specs.Int.NonZero.{non_zero_u32_get}
use Rattle.std.specs.declared.num.NonZeroU32.{NonZeroU32}
use Rattle.run_events_results.specs.declared.stress.StressIndex.{StressIndex}

-- the total a is at most b; an unknown total is less than any known one
abbrev pub IsTotalAtMost : Option NonZeroU32 → Option NonZeroU32 → Type 0
IsTotalAtMost None b = Unit {0}
IsTotalAtMost (Some a) None = ⊥
IsTotalAtMost (Some a) (Some b) = non_zero_u32_get a ≤ non_zero_u32_get b

-- the sub-run a is at most b: its number is less, or its number is the same and its total is at most that of b
abbrev pub IsNoLaterSubRun : StressIndex → StressIndex → Type 0
IsNoLaterSubRun a b = (a.current < b.current) ⊎ ((a.current ≡ b.current) × IsTotalAtMost a.total b.total)

-- the calls by which a sub-run's index writes itself to a hasher: its number, then its total as an `Option` writes it
abbrev pub index_writes : StressIndex → List (List ℕ)
index_writes i = fed.u32 i.current ++ fed.option (λ total. fed.u32 (non_zero_u32_get total)) i.total
