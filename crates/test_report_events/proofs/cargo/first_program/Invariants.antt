use Rattle.std.proofs.Common.{List, map, ℕ}
use Rattle.std.specs.List.{All}
use Rattle.test_report_events.specs.Cargo.{IsProgram}
use Rattle.test_report_events.proofs.cargo.first_program.Given as goal

abbrev pub invariant-loop-path : goal.invariant-loop-path
invariant-loop-path l = All (λ word. (other : List ℕ) → ¬ IsProgram word other) (map (λ x. x.now) l.yielded)
