-- One number less at a name.
use Rattle.std.proofs.Common.{◌≡◌, [], None, Some, ap, arith, cond, rules, sym}
use Rattle.std.specs.List.{list_any}
use Rattle.std.specs.Ordering.{nat_cmp}
use Rattle.std.specs.Str.{bytes_eq}
use Rattle.std.specs.BTreeMap.{get_by_text, is_at}
use Rattle.std.proofs.lemmas.Map.Text.{btree_map_updates_text}
use Rattle.test_report_run.proofs.OrderSteps.{length_zero, map_without}
use Rattle.test_report_run.proofs.running.names.NameOrders.remove.Goals as goal

pub returns-then-is_empty : goal.returns-then-is_empty
returns-then-is_empty c = λ q n.
    let name = c.args.name.now in
    let old = c.args.self.now.orders in
    let after = c.remove.new.self in
    let kept = c.get_mut.follows.lender after in
    let new = c.remove-then-is_empty.new.self in
    let sets = btree_map_updates_text name old kept (Some after) ((c.get_mut.follows.holds after).3 (search rules)) q in
    let gone = btree_map_updates_text name kept new None c.remove-then-is_empty.ensures.updates q in
    let is : get_by_text new q ≡ cond (bytes_eq name q) None (get_by_text old q) = grind (arith, sets, gone) in
    let empty : after.keys ≡ [] = grind (arith, length_zero after.keys) in
    map_without (get_by_text old q) (get_by_text new q) name q c.in-Some.orders.now after c.args.order n None is
    (λ same. grind (arith, ap (λ bytes. get_by_text old bytes) same, c.in-Some.ensures.value)) (c.remove.ensures.updates.0 n)
    (sym (ap (λ keys. list_any (is_at (nat_cmp n)) keys) empty))

pub returns-else-is_empty : goal.returns-else-is_empty
returns-else-is_empty c = λ q n.
    let name = c.args.name.now in
    let old = c.args.self.now.orders in
    let after = c.remove.new.self in
    let new = c.get_mut.follows.lender after in
    let sets = btree_map_updates_text name old new (Some after) ((c.get_mut.follows.holds after).3 (search rules)) q in
    map_without (get_by_text old q) (get_by_text new q) name q c.in-Some.orders.now after c.args.order n (Some after) sets
    (λ same. grind (arith, ap (λ bytes. get_by_text old bytes) same, c.in-Some.ensures.value)) (c.remove.ensures.updates.0 n) (search rules)
