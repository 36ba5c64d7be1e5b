-- The output and the errors of a child process: their description, and whether there was an error.
use Rattle.std.specs.Prelude.{Bool, true, false, not, ◌||◌, Option, None, Some, is_some, option_map, String}
use Rattle.std.specs.declared.alloc.Global.{Global}
use Rattle.run_events_attempts.specs.ChildErrors.{described_errors, described_start_error}
use Rattle.run_events_attempts.specs.ChildOutput.{described_output}
use Rattle.run_events_results.specs.Described.{described_result}
use Rattle.run_events_attempts.specs.ListedErrors.{ListedErrors}
use Rattle.run_events_results.specs.Results.{succeeds}
use Rattle.run_events_attempts.specs.declared.child.ChildExecutionOutputDescription.{ChildExecutionOutputDescription}
use Rattle.run_events_attempts.specs.declared.child.ChildExecutionOutputDescription.TheVariants as told
use Rattle.run_events_attempts.specs.declared.child.LiveSpec.{LiveSpec}
use Rattle.run_events_attempts.specs.declared.child.errors.ChildError.{ChildError}
use Rattle.run_events_attempts.specs.declared.child.execution.ChildExecutionOutput.{ChildExecutionOutput}
use Rattle.run_events_attempts.specs.declared.child.execution.ChildExecutionOutput.TheVariants as seen
use Rattle.run_events_attempts.specs.declared.child.output.ChildOutputDescription.{ChildOutputDescription}
use Rattle.run_events_results.specs.declared.results.ExecutionResultDescription.{ExecutionResultDescription}

-- the errors in reading from a process and waiting for it, if there were any
abbrev pub output_errors : ChildExecutionOutput → Option (ListedErrors ChildError)
output_errors (seen.Output end output errors) = errors
output_errors (seen.StartError e) = None

-- the description of the output and the errors of a process: the same case with all its parts, and with the name of the
-- signal that ended it
abbrev pub described_execution : ChildExecutionOutput → Option (String Global) → ChildExecutionOutputDescription LiveSpec ChildOutputDescription
described_execution (seen.Output end output errors) name =
    told.Output (option_map (λ r. described_result r name) end) (described_output output) (option_map described_errors errors)
described_execution (seen.StartError e) name = told.StartError (described_start_error e)

-- the process has ended without success
abbrev pub end_fails : Option ExecutionResultDescription → Bool
end_fails None = false
end_fails (Some r) = not (succeeds r)

-- there was an error in starting the process, in reading from it or in waiting for it, or it ended without success
abbrev pub errors_occurred : {S D : Type 0} → ChildExecutionOutputDescription S D → Bool
errors_occurred (told.Output end output errors) = is_some errors || end_fails end
errors_occurred (told.StartError e) = true
