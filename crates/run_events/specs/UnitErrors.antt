-- The errors of a test or a setup script, in order.
use Rattle.std.specs.Prelude.{◌≡◌, ◌≢◌, ℕ, Bool, true, false, List, [], ◌∷◌, ◌++◌, map, not, IsTrue, Option, None, Some, MatchOption, option_map, option_to_list}
use Rattle.std.specs.Option.{option_map_or}
use Rattle.output_slice.specs.Extraction.{Extract, IsExtract, LiesIn}
use Rattle.output_slice.specs.Shown.{extract_of, shown_text}
use Rattle.run_events_attempts.specs.ChildOutput.{IsLoaded}
use Rattle.run_events_attempts.specs.ListedErrors.{ListedErrors}
use Rattle.run_events_results.specs.Results.{succeeds}
use Rattle.run_events_attempts.specs.ChildErrors.{child_error_text, start_error_text}
use Rattle.run_events_results.specs.Texts.{unit_abort_text}
use Rattle.run_events_attempts.specs.declared.child.ChildExecutionOutputDescription.{ChildExecutionOutputDescription}
use Rattle.run_events_attempts.specs.declared.child.ChildExecutionOutputDescription.TheVariants as left
use Rattle.run_events_attempts.specs.declared.child.LiveSpec.{LiveSpec}
use Rattle.run_events_attempts.specs.declared.child.errors.ChildErrorDescription.{ChildErrorDescription}
use Rattle.run_events_attempts.specs.declared.child.errors.ChildStartErrorDescription.{ChildStartErrorDescription}
use Rattle.run_events_attempts.specs.declared.child.output.ChildOutputDescription.{ChildOutputDescription}
use Rattle.run_events_attempts.specs.declared.child.output.ChildOutputDescription.TheVariants.{Combined, NotLoaded, Split}
use Rattle.run_events_results.specs.declared.results.ExecutionResultDescription.{ExecutionResultDescription}
use Rattle.run_events_results.specs.declared.results.ExecutionResultDescription.TheVariants.{Fail}
use Rattle.run_events_results.specs.declared.results.UnitKind.{UnitKind}
use Rattle.run_events_results.specs.declared.results.UnitKind.TheVariants as kind
use Rattle.run_events_results.specs.declared.results.failure.AbortDescription.{AbortDescription}
use Rattle.run_events_results.specs.declared.results.failure.FailureDescription.TheVariants.{Abort}
use Rattle.run_events.specs.declared.unit_error.UnitErrorDescription.{UnitErrorDescription}
use Rattle.run_events.specs.declared.unit_error.errors.UnitError.{UnitError}
use Rattle.run_events.specs.declared.unit_error.errors.UnitError.TheVariants as unit

-- an error of a unit, as a value that is not borrowed
pub data ErrorOfUnit : Type 0 where
  start_error : ChildStartErrorDescription → ErrorOfUnit
  output_error : ChildErrorDescription → ErrorOfUnit
  abort_error : AbortDescription → Bool → ErrorOfUnit
  slice_error : Extract → ErrorOfUnit

-- The errors in the output of a child process.

-- the errors in running a unit, in order: the error of its start, or those in reading its output
abbrev pub exec_fail_of : ChildExecutionOutputDescription LiveSpec ChildOutputDescription → List ErrorOfUnit
exec_fail_of (left.StartError e) = start_error e ∷ []
exec_fail_of (left.Output end output errors) = option_map_or (λ l. map output_error l.items) errors []

-- the abort of a failure, with whether the process left a handle open
abbrev pub aborts_in : ExecutionResultDescription → List ErrorOfUnit
aborts_in (Fail (Abort a) leaked) = abort_error a leaked ∷ []
aborts_in _ = []

-- the abort that ended the process, if there was one
abbrev pub aborts_of : ChildExecutionOutputDescription LiveSpec ChildOutputDescription → List ErrorOfUnit
aborts_of (left.Output (Some r) output errors) = aborts_in r
aborts_of _ = []

-- the errors of the process itself: its abort, then the slice that was found
abbrev pub child_process_of : ChildExecutionOutputDescription LiveSpec ChildOutputDescription → Option Extract → List ErrorOfUnit
child_process_of output found = aborts_of output ++ option_to_list (option_map slice_error found)

-- all errors, in order
abbrev pub errors_of : ChildExecutionOutputDescription LiveSpec ChildOutputDescription → Option Extract → List ErrorOfUnit
errors_of output found = exec_fail_of output ++ child_process_of output found

-- The slice of a unit.

-- the unit is a test that has ended without success
abbrev pub is_failed_test : UnitKind → Option ExecutionResultDescription → Bool
is_failed_test kind.Test (Some r) = not (succeeds r)
is_failed_test _ _ = false

-- `found` is the extraction of the output. If both streams were captured as one, each of them is that one.
abbrev pub IsExtractOf : ChildOutputDescription → Option Extract → Type 0
IsExtractOf (Split stdout stderr) found = IsExtract stdout stderr found
IsExtractOf (Combined o) found = IsExtract (Some o) (Some o) found
IsExtractOf NotLoaded found = ⊥

-- If the output is searched, `found` is its extraction, and otherwise `None`.
abbrev pub IsSearched : Bool → ChildOutputDescription → Option Extract → Type 0
IsSearched true output found = IsExtractOf output found
IsSearched false output found = found ≡ None

-- For a failed test, `found` is the slice of its output. For any other unit it is `None`.
abbrev pub IsSliceOf : UnitKind → ChildExecutionOutputDescription LiveSpec ChildOutputDescription → Option Extract → Type 0
IsSliceOf k (left.Output end output errors) found = IsSearched (is_failed_test k end) output found
IsSliceOf k (left.StartError e) found = found ≡ None

-- the extraction is a part of the stream that its kind names
abbrev pub LiesInStreams : ChildOutputDescription → Extract → Type 0
LiesInStreams (Split stdout stderr) x = LiesIn stdout stderr x
LiesInStreams (Combined o) x = LiesIn (Some o) (Some o) x
LiesInStreams NotLoaded x = ⊥

-- The same for the output of a child process. A process that was not started has no stream.
abbrev pub LiesInOutput : ChildExecutionOutputDescription LiveSpec ChildOutputDescription → Extract → Type 0
LiesInOutput (left.Output end output errors) x = LiesInStreams output x
LiesInOutput (left.StartError e) x = ⊥

-- if the unit is a failed test, its output is loaded
abbrev pub CanDescribe : UnitKind → ChildExecutionOutputDescription LiveSpec ChildOutputDescription → Type 0
CanDescribe k (left.Output end output errors) = IsTrue (is_failed_test k end) → IsLoaded output
CanDescribe k (left.StartError e) = Unit {0}

-- The parts of a description.

-- the kind of the unit: a test or a script
abbrev pub kind_of : UnitErrorDescription → UnitKind
kind_of d = d.kind

-- the slice of the output, if there is one
abbrev pub described_slice : UnitErrorDescription → Option Extract
described_slice d = option_map extract_of d.output_slice

-- the error of the start, then the errors of the output
abbrev pub exec_fail_errors : UnitErrorDescription → List ErrorOfUnit
exec_fail_errors d =
    option_to_list (option_map (λ e. start_error e.now) d.start_error) ++ option_map_or (λ l. map output_error l.now.items) d.output_errors []

-- the abort, then the slice
abbrev pub child_process_errors : UnitErrorDescription → List ErrorOfUnit
child_process_errors d =
    option_to_list (option_map (λ a. abort_error a.description.now a.leaked) d.abort) ++ option_to_list (option_map slice_error (described_slice d))

-- all errors of a unit, in order
abbrev pub all_errors : UnitErrorDescription → List ErrorOfUnit
all_errors d = exec_fail_errors d ++ child_process_errors d

-- Lists of errors.

-- a borrowed error as a value
abbrev pub error_seen : UnitError → ErrorOfUnit
error_seen (unit.Start e) = start_error e.now
error_seen (unit.Output e) = output_error e.now
error_seen (unit.Abort a) = abort_error a.description.now a.leaked
error_seen (unit.Slice s) = slice_error (extract_of s)

-- the result is a list of these errors under this description, or `None` if there are no errors
abbrev pub IsListOf : List ℕ → List ErrorOfUnit → Option (ListedErrors UnitError) → Type 0
IsListOf description errors list = MatchOption list (errors ≡ []) (λ l. (errors ≢ []) × (l.description ≡ description) × (map error_seen l.items ≡ errors))

-- the text of an error, which is that of the error in it
abbrev pub unit_error_text : UnitError → List ℕ
unit_error_text (unit.Start e) = start_error_text e.now
unit_error_text (unit.Output e) = child_error_text e.now
unit_error_text (unit.Abort a) = unit_abort_text a.description.now a.leaked
unit_error_text (unit.Slice s) = shown_text s
