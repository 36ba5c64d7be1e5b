-- The flaky tests with one more.
use Rattle.std.proofs.Common.{◌≡◌, ◌∙◌, ap, length, map, sym}
use Rattle.std.specs.BTreeMap.{insert_entry}
use Rattle.std.specs.List.{insert}
use Rattle.std.specs.Map.{values_of}
use Rattle.test_report_run_notes.proofs.InOrder.{placed-after, values-more}
use Rattle.test_report_run_notes.proofs.Places.{map-insert, position_or_len-map}
use Rattle.test_report_run_notes.specs.InOrder.{place_cmp}
use Rattle.test_report_run.specs.Ended.{starts_later}
use Rattle.test_report_run.specs.Suite.{flaky_view}
use Rattle.test_report_run.proofs.flaky.FlakyTests.insert.Goals as goal

pub invariant_of-self : goal.invariant_of-self
invariant_of-self c = record {
  placed = placed-after (λ t. t.order) c.insert.result c.args.self.now.tests.entries c.insert.new.self.entries c.len.result c.args.test c.len.ensures.len
      c.insert.ensures.entries c.insert.ensures.err c.args.self.now.placed;
}

pub returns : goal.returns
returns c =
    let es = c.args.self.now.tests.entries in
    let test = c.args.test in
    let entries : c.insert.new.self.entries ≡ insert_entry place_cmp es (test.order, length es) test =
    c.in_ok-insert.ensures.entries ∙ ap (λ n. insert_entry place_cmp es (test.order, n) test) c.len.ensures.len in
    ap (λ es. map flaky_view (values_of es)) entries
    ∙ ap (map flaky_view) (values-more (λ t. t.order) es test.order (length es) test c.args.self.now.placed)
    ∙ map-insert flaky_view (values_of es) _ test
    ∙ ap (λ k. insert (map flaky_view (values_of es)) k (flaky_view test)) (sym (position_or_len-map (starts_later test.order) flaky_view (values_of es)))
