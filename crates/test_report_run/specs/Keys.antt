-- The numbers and the keys of open suites.
use Rattle.std.specs.Prelude.{ℕ, List, map, Option, Some, None, Box}
use Rattle.std.specs.declared.alloc.Global.{Global}
use Rattle.std.specs.BTreeMap.{get_by_text}
use Rattle.test_report_run_notes.specs.Note.{text_view}
use Rattle.test_report_run.specs.declared.open_suites.keys.KeyNumbers.{KeyNumbers}
use Rattle.test_report_run.specs.declared.suite.Suite.{Suite}

-- the number that the index has for a key, or for no key
abbrev pub number_at : KeyNumbers → Option (List ℕ) → Option ℕ
number_at keys None = keys.keyless
number_at keys (Some key) = get_by_text keys.keys key

-- the number of each suite
abbrev pub numbers_in : List (Box Suite Global) → List (Option ℕ)
numbers_in suites = map (λ suite. suite.value.name.number) suites

-- the key of each suite, if it has one
abbrev pub keys_in : List (Box Suite Global) → List (Option (List ℕ))
keys_in suites = map (λ suite. text_view suite.value.name.key) suites
