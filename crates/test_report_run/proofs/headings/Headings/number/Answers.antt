-- The number of the path of a heading.
use Rattle.std.proofs.Common.{◌≡◌, ◌∙◌, List, ℕ, Bor, Option, arith, ap, map, option_map, string_bytes, rules}
use Rattle.std.proofs.lemmas.Result.{on_ok_weaker}
use Rattle.test_report_run.proofs.HeadingViews.{paths_of-view, with_heading-view}
use Rattle.test_report_run.proofs.Views.{entry_view}
use Rattle.test_report_run.specs.Headings.{numbers_view, with_path}
use Rattle.test_report_run.proofs.headings.Headings.number.Goals as goal

pub returns-clause-number : goal.returns-clause-number
returns-clause-number c =
    let name : string_bytes c.in_ok-name.name ≡ c.args.name.now = search rules in
    let found = paths_of-view c.args.self.now c.in_ok-name.name c.new.result c.or_insert-paths.result.now c.new.ensures
    (grind (arith, c.or_insert-paths.ensures.value, c.in_ok-self.ensures.value)) in
    rw (← name, found) c.number.ensures.number

pub returns-clause-takes : goal.returns-clause-takes
returns-clause-takes c =
    let name : string_bytes c.in_ok-name.name ≡ c.args.name.now = search rules in
    let path : Option (List ℕ) = option_map (λ (p : Bor (List ℕ)). p.now) c.args.path in
    let found = paths_of-view c.args.self.now c.in_ok-name.name c.new.result c.or_insert-paths.result.now c.new.ensures
    (grind (arith, c.or_insert-paths.ensures.value, c.in_ok-self.ensures.value)) in
    let view = with_heading-view c.args.self.now c.in_ok-name.name path c.number.new.self in
    let entries = ap (map (entry_view string_bytes numbers_view)) (c.in_ok-self.ensures.update.1 c.number.new.self) in
    on_ok_weaker c.number.result (λ (taken : numbers_view c.number.new.self ≡
    with_path (numbers_view c.or_insert-paths.result.now) path).
    rw (← name) (let seen = entries ∙ view (rw found taken) in grind (arith, seen))) c.number.ensures.takes
