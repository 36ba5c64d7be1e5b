-- The names with one more.
use Rattle.std.proofs.Common.{◌∙◌, ap, map, string_bytes, refl}
use Rattle.std.specs.Cmp.Lexicographic.{slice_cmp}
use Rattle.std.specs.Ordering.{nat_cmp}
use Rattle.std.specs.String.{string_cmp}
use Rattle.test_report_run.proofs.Views.{entry_view, insert_entry-view}
use Rattle.test_report_run.proofs.suite_names.SuiteNames.insert.Goals as goal

pub returns : goal.returns
returns c =
    ap (map (entry_view string_bytes string_bytes)) c.in_ok-insert.ensures.entries
    ∙ insert_entry-view string_bytes string_bytes string_cmp (slice_cmp nat_cmp) (λ a b. refl) c.args.self.now.names.entries c.args.path c.args.name
