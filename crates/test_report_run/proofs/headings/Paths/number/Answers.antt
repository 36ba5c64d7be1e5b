-- The number of a path.
use Rattle.std.proofs.Common.{◌≡◌, ◌∙◌, Bor, List, ℕ, arith, ap, map, option_map, rules}
use Rattle.test_report_run_notes.specs.Note.{text_view}
use Rattle.test_report_run.proofs.HeadingViews.{number-view, with_path-view}
use Rattle.test_report_run.proofs.Views.{entry_view}
use Rattle.test_report_run.specs.Headings.{number_of, numbers_view}
use Rattle.test_report_run.proofs.headings.Paths.number.Goals as goal

-- the number that is set
is-number : (c : goal.In_ok-insert) → c.unwrap_or-number.result ≡ number_of (numbers_view c.args.self.now) (text_view c.in_ok-path.path)
is-number c =
    rw (number-view c.args.self.now c.in_ok-path.path)
    (grind (arith, c.unwrap_or-number.ensures, c.copied.ensures, c.get.ensures.value, c.len-next.ensures.len))

pub returns-clause-number : goal.returns-clause-number
returns-clause-number c =
    let path : text_view c.in_ok-path.path ≡ option_map (λ (p : Bor (List ℕ)). p.now) c.args.path = search rules in
    rw (← path) (is-number c)

pub returns-clause-takes : goal.returns-clause-takes
returns-clause-takes c =
    let path : text_view c.in_ok-path.path ≡ option_map (λ (p : Bor (List ℕ)). p.now) c.args.path = search rules in
    rw (← path) (ap (map (entry_view text_view (λ n. n))) c.in_ok-insert.ensures.entries
    ∙ with_path-view c.args.self.now c.in_ok-path.path c.unwrap_or-number.result (is-number c))
