-- Laws of what lines say.
use Rattle.std.specs.Prelude.{◌≡◌, ℕ, List}
use Rattle.test_report_events.specs.Event.{EventView}
use Rattle.test_report_events.specs.Line.{LineSays}

-- The events of a line are determined by the line.
abbrev pub OneReadingOfLine : Type 0
OneReadingOfLine = (line : List ℕ) (a b : List EventView) → LineSays line a → LineSays line b → a ≡ b
