-- The name of a path.
use Rattle.std.proofs.Common.{rules, ◌≡◌, List, ℕ, option_map, string_bytes}
use Rattle.std.specs.BTreeMap.{is_at}
use Rattle.std.specs.Cmp.Lexicographic.{slice_cmp}
use Rattle.std.specs.Map.{lookup}
use Rattle.std.specs.Ordering.{nat_cmp}
use Rattle.std.specs.Str.{bytes_eq}
use Rattle.std.proofs.lemmas.Map.Text.{is_eq-slice_cmp}
use Rattle.test_report_run.specs.SuiteNames.{names_of}
use Rattle.test_report_run.specs.declared.suite_names.SuiteNames.{SuiteNames}
use Rattle.test_report_run.proofs.Views.{lookup-view}
use Rattle.test_report_run.proofs.suite_names.SuiteNames.get.Goals as goal

-- a name is found in the map as in its view
found : (n : SuiteNames) (path : List ℕ)
    → lookup (bytes_eq path) (names_of n) ≡ option_map string_bytes (lookup (is_at (λ k. slice_cmp nat_cmp path (string_bytes k))) n.names.entries)
found n path =
    lookup-view string_bytes string_bytes (is_at (λ k. slice_cmp nat_cmp path (string_bytes k))) (bytes_eq path) (λ k. is_eq-slice_cmp path (string_bytes k))
    n.names.entries

pub returns-in-Some : goal.returns-in-Some
returns-in-Some c = rw (found c.args.self.now c.args.path.now, ← c.get.ensures.value) (search rules)

pub returns-in-None : goal.returns-in-None
returns-in-None c = rw (found c.args.self.now c.args.path.now, ← c.get.ensures.value) (search rules)
