-- The first running test that passes a test, and the views of the others.
use Rattle.std.proofs.Common.{◌≡◌, ◌∙◌, ℕ, List, ◌<◌, Bool, true, cond, ap, refl, sym, arith, length, Option, Some, None, IfSome, option_map}
use Rattle.std.specs.BTreeMap.{is_at}
use Rattle.std.specs.List.{position, position_or_len, remove}
use Rattle.std.specs.Map.{lookup, remove_entry, set_value, values_of}
use Rattle.std.specs.Option.{option_map_or}
use Rattle.std.specs.Ordering.{nat_cmp}
use Rattle.std.proofs.lemmas.Bool.{lt-ltb, le-ltb}
use Rattle.std.proofs.Math.ListN.{set}
use Rattle.std.proofs.lemmas.List.{length-map, map-set}
use Rattle.std.proofs.lemmas.Option.{same_Some, slice_get-map, slice_get-get_or}
use Rattle.test_report_run_notes.proofs.Places.{map-remove, position-map}
use Rattle.test_report_run.specs.Running.{RunningView, ended_at, no_test, running_at, running_test_view, running_view, with_slow}
use Rattle.test_report_run.specs.declared.running.RunningTest.{RunningTest}
use Rattle.test_report_run.proofs.Firsts.{IsFirst}

-- the position of the first test that passes
pub place_view : (q : RunningView → Bool) (tests : List RunningTest) → position_or_len (λ t. q (running_test_view t)) tests < length tests
    → position q (running_view tests) ≡ Some (position_or_len (λ t. q (running_test_view t)) tests)
place_view q tests within =
    position-map q running_test_view tests
    ∙ ap (λ b. cond b (Some (position_or_len (λ t. q (running_test_view t)) tests)) None) (lt-ltb _ _ within)

-- no position where no test passes
pub none_view : (q : RunningView → Bool) (tests : List RunningTest) → position_or_len (λ t. q (running_test_view t)) tests ≡ length tests
    → position q (running_view tests) ≡ None
none_view q tests none =
    position-map q running_test_view tests
    ∙ ap (λ b. cond b (Some (position_or_len (λ t. q (running_test_view t)) tests)) None)
    (le-ltb (position_or_len (λ t. q (running_test_view t)) tests) (length tests) (omega (arith, none)))

-- the first test that passes is the one at its position
pub found_view : (q : RunningView → Bool) (es : List (ℕ × RunningTest)) (n : ℕ) → IsFirst (λ t. q (running_test_view t)) es n
    → option_map running_test_view (lookup (is_at (nat_cmp n)) es)
    ≡ option_map (running_at (running_view (values_of es))) (position q (running_view (values_of es)))
found_view q es n first =
    let tests = values_of es in
    let place = position_or_len (λ t. q (running_test_view t)) tests in
    ap (option_map running_test_view) first.2
    ∙ sym (slice_get-map running_test_view tests place)
    ∙ slice_get-get_or (running_view tests) place no_test (omega (arith, first.0, length-map tests running_test_view))
    ∙ sym (ap (option_map (running_at (running_view tests))) (place_view q tests first.0))

-- what is left without it
pub left_view : (q : RunningView → Bool) (es : List (ℕ × RunningTest)) (n : ℕ) → IsFirst (λ t. q (running_test_view t)) es n
    → running_view (values_of (remove_entry (is_at (nat_cmp n)) es))
    ≡ option_map_or (remove (running_view (values_of es))) (position q (running_view (values_of es))) (running_view (values_of es))
left_view q es n first =
    let tests = values_of es in
    let place = position_or_len (λ t. q (running_test_view t)) tests in
    ap (λ ts. running_view ts) first.1
    ∙ map-remove running_test_view tests place
    ∙ sym (ap (λ at. option_map_or (remove (running_view tests)) at (running_view tests)) (place_view q tests first.0))

-- an option, mapped twice
twice : {A B C : Type 0} (f : A → B) (g : B → C) (o : Option A) → option_map g (option_map f o) ≡ option_map (λ a. g (f a)) o
twice f g None = refl
twice f g (Some a) = refl

-- its suite
pub suite_view : (q : RunningView → Bool) (es : List (ℕ × RunningTest)) (n : ℕ) → IsFirst (λ t. q (running_test_view t)) es n
    → option_map (λ t. t.suite) (lookup (is_at (nat_cmp n)) es)
    ≡ option_map (λ at. (running_at (running_view (values_of es)) at).suite) (position q (running_view (values_of es)))
suite_view q es n first =
    sym (twice running_test_view (λ (v : RunningView). v.suite) (lookup (is_at (nat_cmp n)) es))
    ∙ ap (option_map (λ (v : RunningView). v.suite)) (found_view q es n first)
    ∙ twice (running_at (running_view (values_of es))) (λ (v : RunningView). v.suite) (position q (running_view (values_of es)))

-- that test is slow from then on
slow_value : (q : RunningView → Bool) (es : List (ℕ × RunningTest)) (n : ℕ) (t : RunningTest) → IsFirst (λ t. q (running_test_view t)) es n
    → lookup (is_at (nat_cmp n)) es ≡ Some t
    → running_view (values_of (set_value (is_at (nat_cmp n)) es (record t { slow = true })))
    ≡ option_map_or (with_slow (running_view (values_of es))) (position q (running_view (values_of es))) (running_view (values_of es))
slow_value q es n t first is =
    let tests = values_of es in
    let place = position_or_len (λ t. q (running_test_view t)) tests in
    let views = running_view tests in
    let own : running_test_view t ≡ running_at views place =
    same_Some _ _ (ap (option_map running_test_view) (sym is) ∙ found_view q es n first ∙ ap (option_map (running_at views)) (place_view q tests first.0)) in
    ap (λ ts. running_view ts) (first.3 (record t { slow = true }))
    ∙ map-set running_test_view tests place (record t { slow = true })
    ∙ ap (λ (v : RunningView). set views place (record v { slow = true })) own
    ∙ sym (ap (λ at. option_map_or (with_slow views) at views) (place_view q tests first.0))

slow_found : (q : RunningView → Bool) (es after : List (ℕ × RunningTest)) (n : ℕ) (found : Option RunningTest) → IsFirst (λ t. q (running_test_view t)) es n
    → lookup (is_at (nat_cmp n)) es ≡ found → IfSome found (λ t. after ≡ set_value (is_at (nat_cmp n)) es (record t { slow = true }))
    → running_view (values_of after)
    ≡ option_map_or (with_slow (running_view (values_of es))) (position q (running_view (values_of es))) (running_view (values_of es))
slow_found q es after n None first is changed =
    let found : None ≡ Some (running_at (running_view (values_of es)) (position_or_len (λ t. q (running_test_view t)) (values_of es))) =
    ap (option_map running_test_view) (sym is) ∙ found_view q es n first
    ∙ ap (option_map (running_at (running_view (values_of es)))) (place_view q (values_of es) first.0) in
    absurd (grind (arith, found))
slow_found q es after n (Some t) first is changed = ap (λ es. running_view (values_of es)) changed ∙ slow_value q es n t first is

pub slow_view : (q : RunningView → Bool) (es after : List (ℕ × RunningTest)) (n : ℕ) → IsFirst (λ t. q (running_test_view t)) es n
    → IfSome (lookup (is_at (nat_cmp n)) es) (λ t. after ≡ set_value (is_at (nat_cmp n)) es (record t { slow = true }))
    → running_view (values_of after)
    ≡ option_map_or (with_slow (running_view (values_of es))) (position q (running_view (values_of es))) (running_view (values_of es))
slow_view q es after n first changed = slow_found q es after n (lookup (is_at (nat_cmp n)) es) first refl changed

-- the position of a test, with the number of its attempts
pub by_place : {X : Type 0} (f : ℕ → X) (other : X) (attempts : ℕ) (place : Option ℕ)
    → option_map_or f place other ≡ option_map_or (λ p. f p.0) (option_map {U = ℕ × ℕ} (λ at. (at, attempts)) place) other
by_place f other attempts None = refl
by_place f other attempts (Some at) = refl

pub map_place : {X : Type 0} (f : ℕ → X) (attempts : ℕ) (place : Option ℕ)
    → option_map f place ≡ option_map (λ p. f p.0) (option_map {U = ℕ × ℕ} (λ at. (at, attempts)) place)
map_place f attempts None = refl
map_place f attempts (Some at) = refl

pub view_place : (tests : List RunningView) (attempts : ℕ) (place : Option ℕ)
    → option_map {U = RunningView × ℕ} (λ v. (v, attempts)) (option_map (running_at tests) place)
    ≡ option_map (ended_at tests) (option_map {U = ℕ × ℕ} (λ at. (at, attempts)) place)
view_place tests attempts None = refl
view_place tests attempts (Some at) = refl
