-- The errors of a child process: their causes, their texts, and their descriptions.
use Rattle.std.specs.Prelude.{ℕ, List, codes, map}
use Rattle.run_events_attempts.specs.ErrorChain.{ErrorChain}
use Rattle.run_events_attempts.specs.ListedErrors.{ListedErrors}
use Rattle.run_events_attempts.specs.declared.child.errors.ChildError.{ChildError}
use Rattle.run_events_attempts.specs.declared.child.errors.ChildError.TheVariants as seen
use Rattle.run_events_attempts.specs.declared.child.errors.ChildErrorDescription.{ChildErrorDescription}
use Rattle.run_events_attempts.specs.declared.child.errors.ChildErrorDescription.TheVariants as error
use Rattle.run_events_attempts.specs.declared.child.errors.ChildFdError.{ChildFdError}
use Rattle.run_events_attempts.specs.declared.child.errors.ChildFdError.TheVariants as reading
use Rattle.run_events_attempts.specs.declared.child.errors.ChildStartError.{ChildStartError}
use Rattle.run_events_attempts.specs.declared.child.errors.ChildStartError.TheVariants as starting
use Rattle.run_events_attempts.specs.declared.child.errors.ChildStartErrorDescription.{ChildStartErrorDescription}
use Rattle.run_events_attempts.specs.declared.child.errors.ChildStartErrorDescription.TheVariants as start

-- the cause of an error in starting a child process
abbrev pub start_cause : ChildStartErrorDescription → ErrorChain
start_cause (start.TempPath e) = e
start_cause (start.Spawn e) = e

-- the cause of an error of a child process
abbrev pub error_cause : ChildErrorDescription → ErrorChain
error_cause (error.ReadStdout e) = e
error_cause (error.ReadStderr e) = e
error_cause (error.ReadCombined e) = e
error_cause (error.Wait e) = e
error_cause (error.SetupScriptOutput e) = e

-- the description of an error in starting a child process: the same case with the same cause
abbrev pub described_start_error : ChildStartError → ChildStartErrorDescription
described_start_error (starting.TempPath e) = start.TempPath e
described_start_error (starting.Spawn e) = start.Spawn e

-- the description of an error in reading from a child process or waiting for it
abbrev pub described_fd_error : ChildFdError → ChildErrorDescription
described_fd_error (reading.ReadStdout e) = error.ReadStdout e
described_fd_error (reading.ReadStderr e) = error.ReadStderr e
described_fd_error (reading.ReadCombined e) = error.ReadCombined e
described_fd_error (reading.Wait e) = error.Wait e

-- the description of an error of a child process
abbrev pub described_error : ChildError → ChildErrorDescription
described_error (seen.Fd e) = described_fd_error e
described_error (seen.SetupScriptOutput e) = error.SetupScriptOutput e

-- the descriptions of the errors of a list, in order, under the same description of the operation
abbrev pub described_errors : ListedErrors ChildError → ListedErrors ChildErrorDescription
described_errors l = record { description = l.description; items = map described_error l.items }

-- the text of an error in starting a child process, without its cause
abbrev pub start_error_text : ChildStartErrorDescription → List ℕ
start_error_text (start.TempPath cause) = codes "error creating temporary path for setup script"
start_error_text (start.Spawn cause) = codes "error spawning child process"

-- the text of an error of a child process, without its cause
abbrev pub child_error_text : ChildErrorDescription → List ℕ
child_error_text (error.ReadStdout cause) = codes "error reading standard output"
child_error_text (error.ReadStderr cause) = codes "error reading standard error"
child_error_text (error.ReadCombined cause) = codes "error reading combined stream"
child_error_text (error.Wait cause) = codes "error waiting for child process to exit"
child_error_text (error.SetupScriptOutput cause) = codes "error reading setup script output"
