-- The number of one key is set.
use Rattle.std.proofs.Common.{◌≡◌, Some, rules, string_bytes}
use Rattle.std.proofs.lemmas.Map.Text.{btree_map_updates_text}
use Rattle.test_report_run.proofs.KeySteps.{other-keys, set-key}
use Rattle.test_report_run.proofs.open_suites.keys.KeyNumbers.insert.Goals as goal

pub returns-in_ok-insert-in-Some-clause-set : goal.returns-in_ok-insert-in-Some-clause-set
returns-in_ok-insert-in-Some-clause-set c =
    let name = string_bytes c.in_ok-clone-in-Some.field-0 in
    let same : name ≡ string_bytes c.in-Some.key = search rules in
    let old = c.args.self.now.keys in
    let new = c.insert.new.self in
    let sets = btree_map_updates_text name old new (Some c.args.number) c.in_ok-insert-in-Some.ensures.updates in
    rw (c.in-Some.is, ← same) (set-key old new c.args.self.now.keyless name (Some c.args.number) sets)

pub returns-in_ok-insert-in-Some-clause-others : goal.returns-in_ok-insert-in-Some-clause-others
returns-in_ok-insert-in-Some-clause-others c =
    let name = string_bytes c.in_ok-clone-in-Some.field-0 in
    let same : name ≡ string_bytes c.in-Some.key = search rules in
    let old = c.args.self.now.keys in
    let new = c.insert.new.self in
    let sets = btree_map_updates_text name old new (Some c.args.number) c.in_ok-insert-in-Some.ensures.updates in
    rw (c.in-Some.is, ← same) (other-keys old new c.args.self.now.keyless name (Some c.args.number) sets)
