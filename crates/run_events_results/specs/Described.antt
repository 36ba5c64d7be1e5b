-- The description of a result: the same case, with the name of a signal.
use Rattle.std.specs.Prelude.{Option, String}
use Rattle.std.specs.declared.alloc.Global.{Global}
use Rattle.run_events_results.specs.declared.results.failure.AbortDescription.{AbortDescription}
use Rattle.run_events_results.specs.declared.results.failure.AbortDescription.TheVariants as abort
use Rattle.run_events_results.specs.declared.results.failure.AbortStatus.{AbortStatus}
use Rattle.run_events_results.specs.declared.results.failure.AbortStatus.TheVariants.{UnixSignal}
use Rattle.run_events_results.specs.declared.results.ExecutionResult.{ExecutionResult}
use Rattle.run_events_results.specs.declared.results.ExecutionResult.TheVariants as status
use Rattle.run_events_results.specs.declared.results.ExecutionResultDescription.{ExecutionResultDescription}
use Rattle.run_events_results.specs.declared.results.ExecutionResultDescription.TheVariants as result
use Rattle.run_events_results.specs.declared.results.failure.FailureDescription.{FailureDescription}
use Rattle.run_events_results.specs.declared.results.failure.FailureDescription.TheVariants as failure
use Rattle.run_events_results.specs.declared.results.failure.FailureStatus.{FailureStatus}
use Rattle.run_events_results.specs.declared.results.failure.FailureStatus.TheVariants as failed

-- an abort: the name is that of the signal
abbrev pub described_abort : AbortStatus → Option (String Global) → AbortDescription
described_abort (UnixSignal signal) name = abort.UnixSignal signal name

-- a failure: an exit code has no name
abbrev pub described_failure : FailureStatus → Option (String Global) → FailureDescription
described_failure (failed.ExitCode code) name = failure.ExitCode code
described_failure (failed.Abort a) name = failure.Abort (described_abort a name)

-- a result: only a failure can have a name
abbrev pub described_result : ExecutionResult → Option (String Global) → ExecutionResultDescription
described_result status.Pass name = result.Pass
described_result (status.Leak r) name = result.Leak r
described_result (status.Fail f leaked) name = result.Fail (described_failure f name) leaked
described_result status.ExecFail name = result.ExecFail
described_result (status.Timeout r) name = result.Timeout r
