-- The names and paths of headings, and their views.
use Rattle.std.proofs.Common.{◌≡◌, ◌+◌, ◌∙◌, ℕ, List, [], map, option_map, string_bytes, length, Some, None, Option, refl, ap, sym}
use Rattle.std.specs.BTreeMap.{insert_entry, is_at}
use Rattle.std.specs.Cmp.Lexicographic.{slice_cmp}
use Rattle.std.specs.Map.{lookup}
use Rattle.std.specs.Option.{option_cmp, option_eq, unwrap_or}
use Rattle.std.specs.Ordering.{nat_cmp}
use Rattle.std.specs.Str.{bytes_eq}
use Rattle.std.specs.Prelude.{String}
use Rattle.std.specs.String.{string_cmp}
use Rattle.std.specs.declared.alloc.Global.{Global}
use Rattle.std.proofs.lemmas.List.{length-map}
use Rattle.std.proofs.lemmas.Map.Text.{is_eq-slice_cmp}
use Rattle.test_report_run_notes.specs.Note.{text_view}
use Rattle.test_report_run.specs.Headings.{headings_of, number_of, numbers_view, paths_of, with_heading, with_path}
use Rattle.test_report_run.specs.declared.headings.Headings.{Headings}
use Rattle.test_report_run.specs.declared.headings.Paths.{Paths}
use Rattle.test_report_run.proofs.Views.{entry_view, insert_entry-view, lookup-view}

same_path : (path other : Option (String Global)) → is_at (option_cmp string_cmp path) other ≡ option_eq bytes_eq (text_view path) (text_view other)
same_path None None = refl
same_path None (Some o) = refl
same_path (Some p) None = refl
same_path (Some p) (Some o) = is_eq-slice_cmp (string_bytes p) (string_bytes o)

same_order : (path other : Option (String Global)) → option_cmp string_cmp path other ≡ option_cmp (slice_cmp nat_cmp) (text_view path) (text_view other)
same_order None None = refl
same_order None (Some o) = refl
same_order (Some p) None = refl
same_order (Some p) (Some o) = refl

option_map-same : {X : Type 0} (o : Option X) → option_map (λ x. x) o ≡ o
option_map-same None = refl
option_map-same (Some x) = refl

-- the number of a path, from the entries of the map
pub number-view : (p : Paths) (path : Option (String Global))
    → number_of (numbers_view p) (text_view path) ≡ unwrap_or (lookup (is_at (option_cmp string_cmp path)) p.numbers.entries) (length p.numbers.entries + 1)
number-view p path =
    rw (
      lookup-view {X = ℕ} text_view (λ n. n) (is_at (option_cmp string_cmp path)) (option_eq bytes_eq (text_view path)) (same_path path) p.numbers.entries,
      option_map-same (lookup (is_at (option_cmp string_cmp path)) p.numbers.entries),
      length-map p.numbers.entries (entry_view {X = ℕ} text_view (λ n. n)),
    ) refl

-- the paths with one more, from the entries of the map
pub with_path-view : (p : Paths) (path : Option (String Global)) (number : ℕ) → number ≡ number_of (numbers_view p) (text_view path)
    → map (entry_view {X = ℕ} text_view (λ n. n)) (insert_entry (option_cmp string_cmp) p.numbers.entries path number)
    ≡ with_path (numbers_view p) (text_view path)
with_path-view p path number is =
    insert_entry-view {X = ℕ} text_view (λ n. n) (option_cmp string_cmp) (option_cmp (slice_cmp nat_cmp)) same_order p.numbers.entries path number
    ∙ ap (λ n. insert_entry (option_cmp (slice_cmp nat_cmp)) (numbers_view p) (text_view path) n) is

unwrap-view : (found : Option Paths) (none : Paths) → numbers_view none ≡ []
    → unwrap_or (option_map numbers_view found) [] ≡ numbers_view (unwrap_or found none)
unwrap-view None none empty = sym empty
unwrap-view (Some p) none empty = refl

-- the paths of a name, from the entries of the map, where `none` has no paths
pub paths_of-view : (h : Headings) (name : String Global) (none paths : Paths) → numbers_view none ≡ []
    → paths ≡ unwrap_or (lookup (is_at (string_cmp name)) h.names.entries) none → paths_of (headings_of h) (string_bytes name) ≡ numbers_view paths
paths_of-view h name none paths empty found =
    ap (λ found. unwrap_or found []) (lookup-view string_bytes numbers_view (is_at (string_cmp name)) (bytes_eq (string_bytes name))
    (λ other. is_eq-slice_cmp (string_bytes name) (string_bytes other)) h.names.entries)
    ∙ unwrap-view (lookup (is_at (string_cmp name)) h.names.entries) none empty
    ∙ ap (λ (p : Paths). numbers_view p) (sym found)

-- the headings with one more, from the entries of the map
pub with_heading-view : (h : Headings) (name : String Global) (path : Option (List ℕ)) (paths : Paths)
    → numbers_view paths ≡ with_path (paths_of (headings_of h) (string_bytes name)) path
    → map (entry_view string_bytes numbers_view) (insert_entry string_cmp h.names.entries name paths) ≡ with_heading (headings_of h) (string_bytes name) path
with_heading-view h name path paths is =
    insert_entry-view string_bytes numbers_view string_cmp (slice_cmp nat_cmp) (λ a b. refl) h.names.entries name paths
    ∙ ap (λ p. insert_entry (slice_cmp nat_cmp) (headings_of h) (string_bytes name) p) is
