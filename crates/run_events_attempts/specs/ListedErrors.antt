-- The errors of one operation.
use Rattle.std.specs.Prelude.{ℕ, List}

-- errors in order, under a description of the operation
pub record ListedErrors (T : Type 0) : Type 0 where
  pub description : List ℕ
  pub items : List T
