-- The number of one key is removed.
use Rattle.std.proofs.Common.{◌≡◌, None, rules, string_bytes}
use Rattle.std.proofs.lemmas.Map.Text.{btree_map_updates_text}
use Rattle.test_report_run.proofs.KeySteps.{other-keys}
use Rattle.test_report_run.proofs.open_suites.keys.KeyNumbers.remove.Goals as goal

pub returns-in-Some-clause-others : goal.returns-in-Some-clause-others
returns-in-Some-clause-others c =
    let name = c.as_str.result.now in
    let same : name ≡ string_bytes c.in-Some.key = search rules in
    let old = c.args.self.now.keys in
    let new = c.remove.new.self in
    let sets = btree_map_updates_text name old new None c.remove.ensures.updates in
    rw (c.in-Some.is, ← same) (other-keys old new c.args.self.now.keyless name None sets)
