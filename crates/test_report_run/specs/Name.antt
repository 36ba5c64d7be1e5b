-- The name of a suite, by its number and by the texts of its lines.
use Rattle.std.specs.Prelude.{◌++◌, ◌==◌, ℕ, List, Option, codes, option_and_then, option_map, take, unwrap_or}
use Rattle.std.specs.Fmt.{decimal}
use Rattle.std.specs.List.{position}
use Rattle.std.specs.Option.{option_or}

-- the text before the first `$` of a name, if it has one
abbrev pub before_dollar : List ℕ → Option (List ℕ)
before_dollar name = option_map (λ i. take i name) (position (λ c. c == 36) name)

-- the name that texts give a suite: its key, or else the heading, or else the text before the first `$` of its first test's name
abbrev pub given_by : Option (List ℕ) → Option (List ℕ) → Option (List ℕ) → Option (List ℕ)
given_by key heading first_test = option_or key (option_or heading (option_and_then before_dollar first_test))

-- the name that is shown: the given one, or else `suite` and the number. The tests outside of a suite have no number, and no name
abbrev pub name_of : Option ℕ → Option (List ℕ) → Option (List ℕ)
name_of number given = option_map (λ n. unwrap_or given (codes "suite " ++ decimal n)) number

-- the name that is shown, by the number, the key, the heading and the first test of a suite
abbrev pub name_by : Option ℕ → Option (List ℕ) → Option (List ℕ) → Option (List ℕ) → Option (List ℕ)
name_by number key heading first_test = name_of number (given_by key heading first_test)
