-- The text and the answer of `count` for the lines of its input.
use Rattle.std.specs.Prelude.{◌≡◌, ℕ, Bool, List, map}
use Rattle.run_events_stats.specs.Outcome.{IsHighest}
use Rattle.run_events_stats.specs.declared.outcome.run_outcome.RunOutcome.{RunOutcome}
use Rattle.run_digest_engine.specs.Reading.{IsBadLine, IsFirstBadLine, IsReading, Run}
use Rattle.run_digest_engine.specs.Report.{is_success, reports_of, run_outcome}
use Rattle.run_digest_engine.specs.declared.fault.Fault.{Fault}
use Rattle.run_digest_engine.specs.declared.fault.Fault.TheVariants as faults

-- no line is bad
abbrev pub NoBadLine : List (List ℕ) → Type 0
NoBadLine lines = (number : ℕ) → ¬ IsBadLine lines number

-- No line is bad, and the text is the reports of the runs that the lines describe. If there is not exactly one run, a line
-- with their outcome follows. The outcome is the highest of theirs, and the answer is whether it is `Success`.
pub record IsDigest (lines : List (List ℕ)) (text : List ℕ) (success : Bool) : Type 0 where
  pub good : NoBadLine lines
  pub runs : List Run
  pub reading : IsReading lines runs
  pub outcome : RunOutcome
  pub highest : IsHighest (map run_outcome runs) outcome
  pub text_is : text ≡ reports_of runs outcome
  pub success_is : success ≡ is_success outcome

-- why there is no text for these lines: the first bad line, or memory was refused
abbrev pub IsRefusal : List (List ℕ) → Fault → Type 0
IsRefusal lines (faults.BadLine number) = IsFirstBadLine lines number
IsRefusal lines faults.OutOfMemory = Unit {0}
IsRefusal lines faults.BadWord = ⊥
IsRefusal lines faults.Read = ⊥
IsRefusal lines faults.Write = ⊥
