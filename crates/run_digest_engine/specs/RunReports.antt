-- The text for finished runs, and for lines that describe them.
use Rattle.std.specs.Prelude.{◌≡◌, ℕ, Bool, List, map}
use Rattle.run_events_stats.specs.Counters.{unit_view}
use Rattle.run_events_stats.specs.Outcome.{IsHighest}
use Rattle.run_events_stats.specs.declared.outcome.run_outcome.RunOutcome.{RunOutcome}
use Rattle.run_events_stats.specs.declared.stats.FinishedRun.{FinishedRun}
use Rattle.run_digest_engine.specs.Answer.{IsDigest}
use Rattle.run_digest_engine.specs.Reading.{IsReading, Run}
use Rattle.run_digest_engine.specs.Report.{is_success, reports_of, run_outcome}

-- a finished run, in the form in which lines describe one
abbrev pub run_view : FinishedRun → Run
run_view run = record { start = run.start; units = map unit_view run.units.now }

-- the text is the reports of these runs, and unless there is exactly one run, the line with the highest of their outcomes
abbrev pub ReportsRuns : List Run → List ℕ → Type 0
ReportsRuns runs text = (outcome : RunOutcome) × IsHighest (map run_outcome runs) outcome × (text ≡ reports_of runs outcome)

-- the text is the one that `count` writes for any lines that describe these runs, and `count` returns true if and only if their highest outcome is `Success`
abbrev pub AgreesWithCount : List Run → List ℕ → Type 0
AgreesWithCount runs text =
    (lines : List (List ℕ)) (written : List ℕ) (success : Bool) → IsReading lines runs → IsDigest lines written success
    → (text ≡ written) × ((outcome : RunOutcome) → IsHighest (map run_outcome runs) outcome → success ≡ is_success outcome)
