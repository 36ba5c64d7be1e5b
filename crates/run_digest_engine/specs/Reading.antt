-- The runs that the lines of an input describe, and the first bad line.
use Rattle.std.specs.Prelude.{◌≡◌, ◌≢◌, ℕ, ◌-◌, ◌<◌, ◌≤◌, ◌⊎◌, List, [], ◌∷◌, ◌++◌, length, map, slice_get, codes, Some}
use Rattle.bstr.specs.Text.{lines_of, without_terminator}
use Rattle.run_events_stats.specs.Counters.{UnitView}
use Rattle.run_events_stats.specs.declared.stats.RunStart.{RunStart}
use Rattle.run_digest_engine.specs.Spelling.{SpellsStart, SpellsUnit}

-- the lines of an input, each without the `\n` or `\r\n` that ends it
abbrev pub texts_of : List ℕ → List (List ℕ)
texts_of bytes = map without_terminator (lines_of bytes)

-- a run, or a sub-run of a repeated run: its start, and its finished units in order
pub record Run : Type 0 where
  pub start : RunStart
  pub units : List UnitView

-- there are as many lines as units, and each line is the spelling of its unit
abbrev pub SpellUnits : List (List ℕ) → List UnitView → Type 0
SpellUnits [] [] = Unit {0}
SpellUnits (line ∷ lines) (unit ∷ units) = SpellsUnit line unit × SpellUnits lines units
SpellUnits _ _ = ⊥

-- the first of these lines is the start of the run with this keyword, and the others are its units
pub record SpellRun (keyword : List ℕ) (lines : List (List ℕ)) (run : Run) : Type 0 where
  pub first : List ℕ
  pub others : List (List ℕ)
  pub divided : lines ≡ first ∷ others
  pub start : SpellsStart keyword first run.start
  pub units : SpellUnits others run.units

-- the lines are those of the runs, one after another, and each run starts with `sub-run`
abbrev pub SpellRuns : List (List ℕ) → List Run → Type 0
SpellRuns lines [] = lines ≡ []
SpellRuns lines (run ∷ runs) =
    (own : List (List ℕ)) × (rest : List (List ℕ)) × (lines ≡ own ++ rest) × SpellRun (codes "sub-run") own run × SpellRuns rest runs

-- the lines, at most 10,000, describe these runs, at least one. The first run starts with `run`, and the others with
-- `sub-run`.
pub record IsReading (lines : List (List ℕ)) (runs : List Run) : Type 0 where
  pub first : Run
  pub more : List Run
  pub begun : runs ≡ first ∷ more
  pub own : List (List ℕ)
  pub rest : List (List ℕ)
  pub divided : lines ≡ own ++ rest
  pub few : length lines ≤ 10000
  pub run : SpellRun (codes "run") own first
  pub sub_runs : SpellRuns rest more

-- a line that is allowed after line 1: a unit, or the start of a sub-run
abbrev pub HasEntry : List ℕ → Type 0
HasEntry line = ((unit : UnitView) × SpellsUnit line unit) ⊎ ((start : RunStart) × SpellsStart (codes "sub-run") line start)

-- a line that is allowed at this number, counted from 1
abbrev pub HasReading : ℕ → List ℕ → Type 0
HasReading number line =
    ((number ≡ 1) × ((start : RunStart) × SpellsStart (codes "run") line start))
    ⊎ ((number ≢ 1) × HasEntry line)

-- the line of this number, counted from 1, is bad: it is line 1 and missing, or it is line 10,001, or it is not allowed
-- there
abbrev pub IsBadLine : List (List ℕ) → ℕ → Type 0
IsBadLine lines number =
    ((number ≡ 1) × (lines ≡ []))
    ⊎ ((number ≡ 10001) × (number ≤ length lines))
    ⊎ ((0 < number) × ((line : List ℕ) × (slice_get lines (number - 1) ≡ Some line) × ¬ HasReading number line))

-- the bad line of the least number
abbrev pub IsFirstBadLine : List (List ℕ) → ℕ → Type 0
IsFirstBadLine lines number = IsBadLine lines number × ((other : ℕ) → IsBadLine lines other → number ≤ other)
