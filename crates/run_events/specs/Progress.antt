-- What remains of a repeated run, and the ids of its sub-runs.
use Rattle.std.specs.Prelude.{◌≡◌, ◌-◌, ◌<◌, ◌^◌, ◌==◌, ◌↔◌, ◌++◌, ℕ, List, length, All, codes, Option, None, Some, if◌then◌else◌}
use Rattle.std.specs.Duration.{as_nanos}
use Rattle.std.specs.Fmt.{decimal}
use Rattle.std.specs.Int.NonZero.{non_zero_u32_get}
use Rattle.uuid.specs.Text.{hyphenated_text, lower}
use Rattle.run_events.specs.declared.progress.StressCount.TheVariants as total
use Rattle.run_events.specs.declared.progress.StressProgress.{StressProgress}
use Rattle.run_events.specs.declared.progress.StressProgress.TheVariants as progress
use Rattle.run_events.specs.declared.progress.StressRemaining.{StressRemaining}
use Rattle.run_events.specs.declared.progress.StressRemaining.TheVariants as remaining

-- the number of completed sub-runs
abbrev pub completed_of : StressProgress → ℕ
completed_of (progress.Count total elapsed completed) = completed
completed_of (progress.Time total elapsed completed) = completed

-- what remains: a number of sub-runs, sub-runs without end, or a number of nanoseconds
pub data Left : Type 0 where
  sub_runs : ℕ → Left
  endless : Left
  nanos : ℕ → Left

-- what remains, as a number
abbrev pub left_of : StressRemaining → Left
left_of (remaining.Count n) = sub_runs (non_zero_u32_get n)
left_of remaining.Infinite = endless
left_of (remaining.Time d) = nanos (as_nanos d)

-- the amount n, or `None` if it is 0
abbrev pub above_zero : (ℕ → Left) → ℕ → Option Left
above_zero left n = if n == 0 then None else Some (left n)

-- what remains of a repeated run at this progress, or `None` if nothing remains
abbrev pub remaining_of : StressProgress → Option Left
remaining_of (progress.Count (total.Count n) elapsed completed) = above_zero sub_runs (non_zero_u32_get n - completed)
remaining_of (progress.Count total.Infinite elapsed completed) = Some endless
remaining_of (progress.Time total elapsed completed) = above_zero nanos (as_nanos total - as_nanos elapsed)

-- the id of the next sub-run of a run, of which this many are completed
unfoldable pub sub_run_id : List ℕ → ℕ → List ℕ
sub_run_id run_id completed = hyphenated_text lower run_id ++ codes ":@stress-" ++ decimal completed

-- the id of a run is sixteen bytes
pub record IsRunId (id : List ℕ) : Type 0 where
  pub bytes : length id ≡ 16
  pub in_range : All (λ b. b < 256) id

-- the text is the id of this run and this number of completed sub-runs, and of no other
abbrev pub TellsApart : List ℕ → List ℕ → ℕ → Type 0
TellsApart text run_id completed = (run : List ℕ) (count : ℕ) → IsRunId run → count < 2 ^ 32
    → (text ≡ sub_run_id run count) ↔ ((run_id ≡ run) × (completed ≡ count))
