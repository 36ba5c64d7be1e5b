-- The values of codes. A code is a position in the list of its enumeration, counted from 0.
use Rattle.std.specs.Prelude.{ℤ, List, [], ◌∷◌, Option, None, Some, false, true}
use Rattle.run_events_results.specs.declared.levels.FinalStatusLevel.{FinalStatusLevel}
use Rattle.run_events_results.specs.declared.levels.FinalStatusLevel.TheVariants as final
use Rattle.run_events_results.specs.declared.levels.OutputStoreFinal.{OutputStoreFinal}
use Rattle.run_events_results.specs.declared.levels.OutputStoreFinal.TheVariants as store
use Rattle.run_events_results.specs.declared.levels.StatusLevel.{StatusLevel}
use Rattle.run_events_results.specs.declared.levels.StatusLevel.TheVariants as level
use Rattle.run_events_results.specs.declared.results.CancelReason.{CancelReason}
use Rattle.run_events_results.specs.declared.results.CancelReason.TheVariants as reason
use Rattle.run_events_results.specs.declared.results.ExecutionResultDescription.{ExecutionResultDescription}
use Rattle.run_events_results.specs.declared.results.ExecutionResultDescription.TheVariants as result
use Rattle.run_events_results.specs.declared.results.failure.AbortDescription.TheVariants as abort
use Rattle.run_events_results.specs.declared.results.failure.FailureDescription.TheVariants as failure
use Rattle.run_events_results.specs.declared.config.FlakyResult.{FlakyResult}
use Rattle.run_events_results.specs.declared.config.FlakyResult.TheVariants as flaky
use Rattle.run_events_results.specs.declared.config.LeakTimeoutResult.TheVariants as leak
use Rattle.run_events_results.specs.declared.config.SlowTimeoutResult.TheVariants as slow
use Rattle.run_events_results.specs.declared.config.TestOutputDisplay.{TestOutputDisplay}
use Rattle.run_events_results.specs.declared.config.TestOutputDisplay.TheVariants as display
use Rattle.run_events_stats.specs.declared.outcome.RunFailureStep.TheVariants as step
use Rattle.run_events_stats.specs.declared.outcome.finished.StressFinalRunStats.{StressFinalRunStats}
use Rattle.run_events_stats.specs.declared.outcome.finished.StressFinalRunStats.TheVariants as stress
use Rattle.run_events_stats.specs.declared.outcome.run_outcome.RunOutcome.{RunOutcome}
use Rattle.run_events_stats.specs.declared.outcome.run_outcome.RunOutcome.TheVariants as outcome

-- the results of an attempt, with this number if they have one; names of signals, messages of status codes and leaks of
-- failures have no code
abbrev pub results : ℤ → List ExecutionResultDescription
results number =
    result.Pass
    ∷ result.Leak leak.Pass
    ∷ result.Leak leak.Fail
    ∷ result.Fail (failure.ExitCode number) false
    ∷ result.Fail (failure.Abort (abort.UnixSignal number None)) false
    ∷ result.Fail (failure.Abort (abort.WindowsNtStatus number None)) false
    ∷ result.Fail (failure.Abort abort.WindowsJobObject) false
    ∷ result.ExecFail
    ∷ result.Timeout slow.Pass
    ∷ result.Timeout slow.Fail
    ∷ []

-- the codes of how a flaky test counts
abbrev pub flaky_results : List FlakyResult
flaky_results = flaky.Pass ∷ flaky.Fail ∷ []

-- the codes of reasons to cancel a run
abbrev pub reasons : List (Option CancelReason)
reasons =
    None
    ∷ Some reason.SetupScriptFailure
    ∷ Some reason.TestFailure
    ∷ Some reason.ReportError
    ∷ Some reason.OutputLimit
    ∷ Some reason.TestFailureImmediate
    ∷ Some reason.GlobalTimeout
    ∷ Some reason.Signal
    ∷ Some reason.Interrupt
    ∷ Some reason.SecondSignal
    ∷ []

-- the codes of status levels
abbrev pub levels : List StatusLevel
levels = level.None ∷ level.Fail ∷ level.Retry ∷ level.Slow ∷ level.Leak ∷ level.Pass ∷ level.Skip ∷ level.All ∷ []

-- the codes of final levels
abbrev pub final_levels : List FinalStatusLevel
final_levels = final.None ∷ final.Fail ∷ final.Flaky ∷ final.Slow ∷ final.Skip ∷ final.Leak ∷ final.Pass ∷ final.All ∷ []

-- the codes of when output is displayed
abbrev pub displays : List TestOutputDisplay
displays = display.Immediate ∷ display.ImmediateFinal ∷ display.Final ∷ display.Never ∷ []

-- the codes of what is stored for the end of a run
abbrev pub stores : List OutputStoreFinal
stores = store.No ∷ store.Yes false ∷ store.Yes true ∷ []

-- the codes of summaries of a repeated run
abbrev pub stress_finals : List StressFinalRunStats
stress_finals = stress.NoTestsRun ∷ stress.Success ∷ stress.Cancelled ∷ stress.Failed ∷ []

-- the codes of outcomes of a run
abbrev pub outcomes : List RunOutcome
outcomes =
    outcome.NoTestsRun
    ∷ outcome.Success
    ∷ outcome.Cancelled step.Test
    ∷ outcome.Cancelled step.SetupScript
    ∷ outcome.Failed step.Test
    ∷ outcome.Failed step.SetupScript
    ∷ []
