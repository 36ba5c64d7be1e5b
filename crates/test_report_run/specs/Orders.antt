-- The numbers by which running tests are found.
use Rattle.std.specs.Prelude.{◌==◌, ℕ, List, Bool, false, string_bytes, Option}
use Rattle.std.specs.BTreeMap.{BTreeMap, get, get_by_text}
use Rattle.std.specs.BTreeSet.{contains}
use Rattle.std.specs.Option.{option_cmp, option_eq, option_map_or}
use Rattle.std.specs.Ordering.{nat_cmp, ordering_then}
use Rattle.std.specs.Str.{bytes_eq}
use Rattle.std.specs.declared.cmp.Ordering.{Ordering}
use Rattle.test_report_run.specs.declared.running.RunningTest.{RunningTest}
use Rattle.test_report_run.specs.declared.running.names.NameOrders.{NameOrders}

-- the index has this number at this name
abbrev pub has_order : NameOrders → List ℕ → ℕ → Bool
has_order names name n = option_map_or (λ orders. contains nat_cmp orders n) (get_by_text names.orders name) false

-- the running test with this number has this name
abbrev pub is_named : BTreeMap ℕ RunningTest → List ℕ → ℕ → Bool
is_named tests name n = option_map_or (λ t. bytes_eq (string_bytes t.name) name) (get nat_cmp tests n) false

-- the running test with this number is one of this suite
abbrev pub is_in_suite : BTreeMap ℕ RunningTest → Option ℕ → ℕ → Bool
is_in_suite tests suite n = option_map_or (λ t. option_eq (λ a b. a == b) t.suite suite) (get nat_cmp tests n) false

-- the order of suites, and of the tests of each
abbrev pub suite_order_cmp : Option ℕ × ℕ → Option ℕ × ℕ → Ordering
suite_order_cmp a b = ordering_then (option_cmp nat_cmp a.0 b.0) (nat_cmp a.1 b.1)
