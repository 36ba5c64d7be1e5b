-- The status that an export returns.
use Rattle.std.specs.Prelude.{ℕ, Option, None, Some}
use Rattle.c_values.specs.declared.status.TheConstants.{BAD_CODE, OK}

-- the status of a function that needs a value: `OK` if there is one, or `BAD_CODE` if a code or another number in an
-- argument is not allowed
abbrev pub status_of : {A : Type 0} → Option A → ℕ
status_of None = BAD_CODE
status_of (Some _) = OK
