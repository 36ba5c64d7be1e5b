-- Names in a set.
use Rattle.std.proofs.Common.{◌≡◌, ◌∙◌, [], ◌∷◌, Global, List, String, ap, map, refl, string_bytes}
use Rattle.std.specs.BTreeMap.{is_at}
use Rattle.std.specs.Cmp.Lexicographic.{slice_cmp}
use Rattle.std.specs.List.{list_any}
use Rattle.std.specs.Ordering.{nat_cmp}
use Rattle.std.specs.Prelude.{ℕ, ◌||◌}
use Rattle.std.specs.Str.{bytes_eq}
use Rattle.std.proofs.lemmas.Map.Text.{is_eq-slice_cmp}
use Rattle.test_report_run.specs.Over.{is_among}
use Rattle.test_report_run.specs.Running.{running_test_view, running_view}
use Rattle.test_report_run.specs.declared.running.RunningTest.{RunningTest}

-- a text is a key of a set just where it is one of its names
pub among : (text : List ℕ) (keys : List (String Global))
    → list_any (is_at (λ k. slice_cmp nat_cmp text (string_bytes k))) keys ≡ list_any (bytes_eq text) (map string_bytes keys)
among text [] = refl
among text (k ∷ keys) =
    ap (λ b. b || list_any (is_at (λ k. slice_cmp nat_cmp text (string_bytes k))) keys) (is_eq-slice_cmp text (string_bytes k))
    ∙ ap (λ b. bytes_eq text (string_bytes k) || b) (among text keys)

-- a test of a list has one of these names just where its view has one
pub any-test : (names : List (List ℕ)) (tests : List RunningTest)
    → list_any (λ t. is_among names (running_test_view t)) tests ≡ list_any (is_among names) (running_view tests)
any-test names [] = refl
any-test names (t ∷ tests) = ap (λ b. is_among names (running_test_view t) || b) (any-test names tests)
