-- Laws of the definitions of lines.
use Rattle.std.specs.Prelude.{◌≡◌, ℕ, List, codes}
use Rattle.bstr.specs.Text.{lines_of}
use Rattle.run_events_stats.specs.Counters.{UnitView}
use Rattle.output_slice.specs.Lines.{AreLines}
use Rattle.run_events_stats.specs.declared.stats.RunStart.{RunStart}
use Rattle.run_digest_engine.specs.Reading.{IsReading, Run}
use Rattle.run_digest_engine.specs.Spelling.{SpellsStart, SpellsUnit}

-- The lines into which the function of `bstr` cuts an input are its lines.
abbrev pub LinesAreCut : Type 0
LinesAreCut = (bytes : List ℕ) → AreLines bytes (lines_of bytes)

-- A line is the start of at most one run, for each keyword.
abbrev pub OneStart : Type 0
OneStart = (keyword : List ℕ) → (line : List ℕ) → (a : RunStart) → (b : RunStart)
    → SpellsStart keyword line a → SpellsStart keyword line b → a ≡ b

-- A line is at most one unit.
abbrev pub OneUnit : Type 0
OneUnit = (line : List ℕ) → (a : UnitView) → (b : UnitView) → SpellsUnit line a → SpellsUnit line b → a ≡ b

-- A line that is a unit is not the start of a sub-run.
abbrev pub OneEntry : Type 0
OneEntry = (line : List ℕ) → (unit : UnitView) → (start : RunStart) → SpellsUnit line unit → ¬ SpellsStart (codes "sub-run") line start

-- Lines describe at most one list of runs.
abbrev pub OneReading : Type 0
OneReading = (lines : List (List ℕ)) → (a : List Run) → (b : List Run) → IsReading lines a → IsReading lines b → a ≡ b
