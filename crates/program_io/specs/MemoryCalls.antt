-- The call of a memory device that fails.
use Rattle.std.specs.Prelude.{ℕ, zero, suc, Option, None, Some}

-- The number of calls before the one that fails, after one more call, or `None` if no later call fails.
abbrev pub after_call : Option ℕ → Option ℕ
after_call None = None
after_call (Some zero) = None
after_call (Some (suc n)) = Some n
