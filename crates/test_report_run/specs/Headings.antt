-- The names that headings give suites.
use Rattle.std.specs.Prelude.{◌+◌, ◌++◌, ◌==◌, [], ℕ, List, codes, if◌then◌else◌, length, map, string_bytes, Option}
use Rattle.std.specs.BTreeMap.{insert_entry}
use Rattle.std.specs.Cmp.Lexicographic.{slice_cmp}
use Rattle.std.specs.Fmt.{decimal}
use Rattle.std.specs.Map.{lookup}
use Rattle.std.specs.Option.{option_cmp, option_eq, unwrap_or}
use Rattle.std.specs.Ordering.{nat_cmp}
use Rattle.std.specs.Str.{bytes_eq}
use Rattle.test_report_run_notes.specs.Note.{text_view}
use Rattle.test_report_run.specs.declared.headings.Headings.{Headings}
use Rattle.test_report_run.specs.declared.headings.Paths.{Paths}

-- the paths of binaries that headings with one name had, each with its number. Headings of documentation tests have no path
abbrev pub PathNumbers : Type 0
PathNumbers = List (Option (List ℕ) × ℕ)

-- the names of headings, each with its paths
abbrev pub NamedPaths : Type 0
NamedPaths = List (List ℕ × PathNumbers)

-- the paths of one name
abbrev pub numbers_view : Paths → PathNumbers
numbers_view p = map (λ e. (text_view e.0, e.1)) p.numbers.entries

-- what is kept of headings
abbrev pub headings_of : Headings → NamedPaths
headings_of h = map (λ e. (string_bytes e.0, numbers_view e.1)) h.names.entries

-- the paths that headings with this name had
abbrev pub paths_of : NamedPaths → List ℕ → PathNumbers
paths_of headings name = unwrap_or (lookup (bytes_eq name) headings) []

-- the number of a path: the one that it has, or else the next one
abbrev pub number_of : PathNumbers → Option (List ℕ) → ℕ
number_of paths path = unwrap_or (lookup (option_eq bytes_eq path) paths) (length paths + 1)

-- the paths with this one
abbrev pub with_path : PathNumbers → Option (List ℕ) → PathNumbers
with_path paths path = insert_entry (option_cmp (slice_cmp nat_cmp)) paths path (number_of paths path)

-- the headings with one more
abbrev pub with_heading : NamedPaths → List ℕ → Option (List ℕ) → NamedPaths
with_heading headings name path = insert_entry (slice_cmp nat_cmp) headings name (with_path (paths_of headings name) path)

-- the name that a heading shows: its name, and the number of its path from the second on
abbrev pub shown_by : NamedPaths → List ℕ → Option (List ℕ) → List ℕ
shown_by headings name path =
    let number = number_of (paths_of headings name) path in
    if number == 1 then name else name ++ (codes " (" ++ (decimal number ++ codes ")"))
