-- The entry of a test in a JUnit report.
use Rattle.std.specs.Prelude.{Bool, true, false, Option, IfSome, option_map}
use Rattle.output_slice.specs.Extraction.{Extract}
use Rattle.output_slice.specs.Shown.{extract_of}
use Rattle.run_events_attempts.specs.declared.child.ChildExecutionOutputDescription.{ChildExecutionOutputDescription}
use Rattle.run_events_attempts.specs.declared.child.LiveSpec.{LiveSpec}
use Rattle.run_events_attempts.specs.declared.child.output.ChildOutputDescription.{ChildOutputDescription}
use Rattle.run_events_results.specs.declared.results.UnitKind.TheVariants as UnitKind
use Rattle.run_events.specs.UnitErrors.{CanDescribe, IsSliceOf, LiesInOutput}
use Rattle.uses.specs.declared.junit.TestCase.{TestCase}
use Rattle.uses.specs.declared.junit.TestCase.TheVariants.{Failure, Flaky, FlakyFailure, Success}

-- whether the entry is a failure
abbrev pub is_failure : TestCase → Bool
is_failure Success = false
is_failure Flaky = false
is_failure FlakyFailure = true
is_failure (Failure message) = true

-- whether the entry is a flaky test that counts as passed
abbrev pub is_flaky : TestCase → Bool
is_flaky Flaky = true
is_flaky _ = false

-- whether the entry is a flaky test, however it counts
abbrev pub is_late_success : TestCase → Bool
is_late_success Flaky = true
is_late_success FlakyFailure = true
is_late_success _ = false

-- the message is the slice of the output if that is loaded, and it is a part of the stream that its kind names
pub record IsMessage (output : ChildExecutionOutputDescription LiveSpec ChildOutputDescription) (message : Option Extract) : Type 0 where
  pub slice : CanDescribe UnitKind.Test output → IsSliceOf UnitKind.Test output message
  pub part : IfSome message (LiesInOutput output)

-- the message of a failure is that of the output
abbrev pub HasMessage : ChildExecutionOutputDescription LiveSpec ChildOutputDescription → TestCase → Type 0
HasMessage output (Failure message) = IsMessage output (option_map extract_of message)
HasMessage output _ = Unit {0}
