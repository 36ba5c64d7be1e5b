-- The exit status of a run.
use Rattle.std.specs.Prelude.{◌≡◌, ◌⊎◌, ℕ, List, All, Contains}
use Rattle.run_events.specs.Outcome.{IsHighest}
use Rattle.run_events_stats.specs.declared.outcome.RunFailureStep.TheVariants.{SetupScript, Test}
use Rattle.run_events_stats.specs.declared.outcome.run_outcome.RunOutcome.{RunOutcome}
use Rattle.run_events_stats.specs.declared.outcome.run_outcome.RunOutcome.TheVariants.{Cancelled, Failed, NoTestsRun, Success}

-- the exit status of an outcome; that of a cancelled or failed run depends on its step
abbrev pub status_of : RunOutcome → ℕ
status_of Success = 0
status_of NoTestsRun = 4
status_of (Cancelled Test) = 100
status_of (Failed Test) = 100
status_of (Cancelled SetupScript) = 105
status_of (Failed SetupScript) = 105

-- the run succeeded or ran no tests
abbrev pub IsQuiet : RunOutcome → Type 0
IsQuiet o = (o ≡ Success) ⊎ (o ≡ NoTestsRun)

-- one sub-run succeeded, and every other one succeeded or ran no tests
abbrev pub Succeeds : List RunOutcome → Type 0
Succeeds outcomes = Contains outcomes Success × All IsQuiet outcomes

-- no sub-run ran a test, and none failed or was cancelled
abbrev pub RanNoTests : List RunOutcome → Type 0
RanNoTests outcomes = All (λ o. o ≡ NoTestsRun) outcomes

-- the status is that of the highest outcome
abbrev pub EndsBy : List RunOutcome → ℕ → Type 0
EndsBy outcomes status = (o : RunOutcome) × IsHighest outcomes o × (status ≡ status_of o)
