-- One more name.
use Rattle.std.proofs.Common.{◌∙◌, List, Option, ap, map, string_bytes, ℕ}
use Rattle.std.specs.BTreeSet.{insert_key}
use Rattle.std.specs.Cmp.Lexicographic.{slice_cmp}
use Rattle.std.specs.Option.{option_map_or}
use Rattle.std.specs.Ordering.{nat_cmp}
use Rattle.test_report_run.specs.Over.{names_of}
use Rattle.test_report_programs.proofs.Threads.{insert-text}
use Rattle.test_report_programs.proofs.names.add_thread.Goals as goal

pub returns : goal.returns
returns c =
    let names = names_of c.args.names.now in
    ap (map string_bytes) c.in_ok-insert.ensures.keys
    ∙ insert-text c.args.names.now.keys c.in_ok-name.name
    ∙ ap (λ (name : List ℕ). insert_key (slice_cmp nat_cmp) names name) c.in_ok-name.ensures.ok
    ∙ ap (λ (found : Option (List ℕ)). option_map_or (insert_key (slice_cmp nat_cmp) names) found names) c.in-Some.ensures
