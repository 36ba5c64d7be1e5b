-- One more number at a name.
use Rattle.std.proofs.Common.{◌≡◌, Some, ap, arith, rules, string_bytes}
use Rattle.std.specs.BTreeMap.{get_by_text}
use Rattle.std.specs.BTreeMap.Entry.{map_with_value}
use Rattle.std.proofs.lemmas.Map.Text.{btree_map_updates_text}
use Rattle.test_report_run.proofs.OrderSteps.{map_with}
use Rattle.test_report_run.proofs.running.names.NameOrders.insert.Goals as goal

pub returns : goal.returns
returns c = λ q n.
    let name : string_bytes c.in_ok-name.name ≡ c.args.name.now = search rules in
    let old = c.args.self.now.orders in
    let after = c.insert.new.self in
    let new = map_with_value c.in_ok-self.field-0 after in
    let sets = btree_map_updates_text (string_bytes c.in_ok-name.name) old new (Some after) (c.in_ok-self.ensures.update.0 after) q in
    let step = map_with (get_by_text old (string_bytes c.in_ok-name.name)) (get_by_text old q) (get_by_text new q) (string_bytes c.in_ok-name.name) q
    c.new.result after c.args.order n sets (λ same. ap (λ bytes. get_by_text old bytes) same) c.new.ensures.empty
    (grind (arith, c.in_ok-insert.ensures.updates.0 n, c.or_insert-orders.ensures.value, c.in_ok-self.ensures.value)) in
    grind (arith, step, name)
