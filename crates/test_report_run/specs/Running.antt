-- The tests that are running.
use Rattle.std.specs.Prelude.{◌≡◌, ◌≤◌, ◌+◌, ◌-◌, ◌==◌, ◌++◌, [], ℕ, List, Bool, true, false, codes, map, slice_index_or, slice_set, take, Option, Some, None, option_and_then, option_map, string_bytes, length}
use Rattle.std.specs.BTreeMap.{values}
use Rattle.std.specs.List.{ends_with, find, position, range_with_len}
use Rattle.std.specs.Fmt.{decimal}
use Rattle.std.specs.Option.{option_eq}
use Rattle.std.specs.Str.{bytes_eq}
use Rattle.test_report_run.specs.declared.running.Running.{Running}
use Rattle.test_report_run.specs.declared.running.RunningTest.{RunningTest}

-- a test that runs: its name, the number of its suite, how many tests started before it, and whether a line said that it is slow
pub record RunningView : Type 0 where
  pub name : List ℕ
  pub suite : Option ℕ
  pub order : ℕ
  pub slow : Bool

-- what is kept of a test that runs
abbrev pub running_test_view : RunningTest → RunningView
running_test_view t = record { name = string_bytes t.name; suite = t.suite; order = t.order; slow = t.slow }

-- the tests that run, in the order in which they started
abbrev pub running_view : List RunningTest → List RunningView
running_view tests = map running_test_view tests

-- the tests that run, by what is kept of them
abbrev pub tests_of : Running → List RunningView
tests_of r = running_view (values r.tests)

-- these are numbers of one suite, or both are of the tests outside of a suite
abbrev pub is_same : Option ℕ → Option ℕ → Bool
is_same a b = option_eq (λ m n. m == n) a b

-- the test is one of this suite
abbrev pub is_of : Option ℕ → RunningView → Bool
is_of suite t = is_same t.suite suite

-- the test has this name
abbrev pub has_name : List ℕ → RunningView → Bool
has_name name t = bytes_eq t.name name

-- the test at a position that has none
abbrev pub no_test : RunningView
no_test = record { name = []; suite = None; order = 0; slow = false }

-- the test at this position
abbrev pub running_at : List RunningView → ℕ → RunningView
running_at tests at = slice_index_or tests at no_test

-- the tests after a line that says that the one at this position is slow
abbrev pub with_slow : List RunningView → ℕ → List RunningView
with_slow tests at = slice_set tests at (record (running_at tests at) { slow = true })

-- the written name ends in `#N`
abbrev pub ends_in_number : List ℕ → ℕ → Bool
ends_in_number written n = ends_with (λ a b. a == b) written (codes "#" ++ decimal n)

-- the number of attempts that a written name gives: the number N from 2 to 1,000 for which it ends in `#N`. It does not unfold by itself, since it
-- tries 999 numbers
unfoldable pub attempts_of : List ℕ → Option ℕ
attempts_of written = find (ends_in_number written) (range_with_len 2 999)

-- a text is the number of attempts in decimal digits
abbrev pub CountsAttempts : List ℕ → ℕ → Type 0
CountsAttempts text n = (2 ≤ n) × (n ≤ 1000) × (text ≡ decimal n)

-- a written name without `#N`
abbrev pub without_number : List ℕ → ℕ → List ℕ
without_number written n = take (length written - (length (decimal n) + 1)) written

-- a written name without `#N`, and N
abbrev pub split_at : List ℕ → ℕ → List ℕ × ℕ
split_at written n = (without_number written n, n)

-- a written name without the number of attempts that it gives, and that number
abbrev pub split_of : List ℕ → Option (List ℕ × ℕ)
split_of written = option_map (split_at written) (attempts_of written)

-- the position of the first running test with this name, and this number of attempts
abbrev pub place_by_attempts : List RunningView → List ℕ × ℕ → Option (ℕ × ℕ)
place_by_attempts tests split = option_map (λ at. (at, split.1)) (position (has_name split.0) tests)

-- the position of the running test that ends with this written name, and the number of its attempts: the first test with exactly this name, or else
-- the first one with the name without `#N`
abbrev pub place_of_end : List RunningView → List ℕ → Option (ℕ × ℕ)
place_of_end tests written = elim (position (has_name written) tests) as (λ _. Option (ℕ × ℕ)) [
  | Some at ↦ Some (at, 1)
  | None ↦ option_and_then (place_by_attempts tests) (split_of written)
]

-- the test at this position, and the number of its attempts
abbrev pub ended_at : List RunningView → ℕ × ℕ → RunningView × ℕ
ended_at tests place = (running_at tests place.0, place.1)
