-- The captured output of a child process.
use Rattle.std.specs.Prelude.{ℕ, length, Option, None, Some, option_map}
use Rattle.run_events_attempts.specs.declared.child.output.ChildOutput.{ChildOutput}
use Rattle.run_events_attempts.specs.declared.child.output.ChildOutput.TheVariants as seen
use Rattle.run_events_attempts.specs.declared.child.output.ChildOutputDescription.{ChildOutputDescription}
use Rattle.run_events_attempts.specs.declared.child.output.ChildOutputDescription.TheVariants as output

-- the description of captured output: the same case with the same streams
abbrev pub described_output : ChildOutput → ChildOutputDescription
described_output (seen.Split s) = output.Split s.stdout s.stderr
described_output (seen.Combined o) = output.Combined o

-- the output is loaded
abbrev pub IsLoaded : ChildOutputDescription → Type 0
IsLoaded output.NotLoaded = ⊥
IsLoaded _ = Unit {0}

-- the lengths of standard output and standard error; or, if both were captured as one, its length and `None`
abbrev pub captured_lengths : ChildOutputDescription → Option ℕ × Option ℕ
captured_lengths (output.Split stdout stderr) = (option_map length stdout, option_map length stderr)
captured_lengths (output.Combined o) = (Some (length o), None)
captured_lengths output.NotLoaded = (None, None)
