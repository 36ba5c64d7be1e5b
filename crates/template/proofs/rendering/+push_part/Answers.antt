use Rattle.std.proofs.Common.{◌∙◌, ◌++◌, ◌+◌, drop, ap, sym, arith, append-nil, string_bytes}
use Rattle.std.proofs.lemmas.Grind.{common_steps}
use Rattle.template.proofs.Steps.{each_part, each_text, hole_part, no_item, no_items, no_part, no_value, one_item, one_part, otherwise_part, some_items, text_part}
use Rattle.template.specs.Template.{has_items, item_in, items_of, parts_text, parts_view, value_view, values_view}
use Rattle.template.proofs.rendering.+push_part.Goals as goal
use Rattle.template.proofs.rendering.+push_part.Goals.{in-Some+else-loop-inner-test, in_default}

pub returns-in-Text : goal.returns-in-Text
returns-in-Text t c = let e = text_part c.args.part.now c.in-Text.data c.in-Text.is (values_view c.args.values.now) in grind (arith, common_steps)

pub returns-in-Hole : goal.returns-in-Hole
returns-in-Hole t c =
    let e = hole_part c.args.part.now c.in-Hole.kind c.in-Hole.name c.in-Hole.is (values_view c.args.values.now) in
    grind (arith, common_steps)

pub loop-inner-preserved : goal.loop-inner-preserved
loop-inner-preserved t c =
    one_part c.deref-inner-items.result.now c.loop-inner.inner-index c.inner-item.result (values_view c.in-Some.item.now)
    (string_bytes c.loop-inner.text) _ _ (omega arith) c.inner-item.is c.in_ok-push_part-in-Each.ensures c.loop-inner.invariant

pub loop-other-preserved : goal.loop-other-preserved
loop-other-preserved t c =
    one_part c.deref-other-items.result.now c.loop-other.other-index c.other-item.result (values_view c.args.values.now)
    (string_bytes c.loop-other.text) _ _ (omega arith) c.other-item.is c.in_ok-push_part-in-Otherwise.ensures c.loop-other.invariant

pub loop-value-preserved : goal.loop-value-preserved
loop-value-preserved t c =
    let name = ap (λ n. item_in n (value_view c.value-item.result)) (sym c.as_str-in-loop-value.ensures.value) in
    elim c.match-item_in.branch [
      | in-Some+else-loop-inner-test w ↦
          let inner =
          no_part w.deref-inner-items.result.now w.loop-inner.inner-index (values_view w.in-Some.item.now) (string_bytes w.loop-inner.text)
          (string_bytes c.loop-value.text ++ parts_text (parts_view w.deref-inner-items.result.now) (values_view w.in-Some.item.now))
          (omega arith) w.loop-inner.invariant
          ∙ ap (λ l. string_bytes c.loop-value.text ++ parts_text (parts_view l) (values_view w.in-Some.item.now)) w.deref-inner-items.ensures.value in
          one_item (parts_view c.in-Each.parts.items) (string_bytes c.in-Each.name) c.args.values.now c.loop-value.value-index c.value-item.result
          (values_view w.in-Some.item.now) (string_bytes c.loop-value.text) _ _ (omega arith) c.value-item.is (name ∙ w.in-Some.ensures)
          (ap string_bytes w.text-is ∙ inner) c.loop-value.invariant
      | in_default w ↦
          ap (λ t. string_bytes t ++ each_text (parts_view c.in-Each.parts.items) (string_bytes c.in-Each.name)
          (drop (c.loop-value.value-index + 1) c.args.values.now)) w.text-is
          ∙ no_item (parts_view c.in-Each.parts.items) (string_bytes c.in-Each.name) c.args.values.now c.loop-value.value-index c.value-item.result
          (string_bytes c.loop-value.text) _ (omega arith) c.value-item.is (name ∙ w.in_default.ensures) c.loop-value.invariant
    ]

pub returns-then-has_item : goal.returns-then-has_item
returns-then-has_item t c =
    let vs = values_view c.args.values.now in
    let found = ap (λ n. has_items (items_of n vs)) (sym c.as_str-in-Otherwise.ensures.value) ∙ (sym c.has_item.ensures ∙ c.if-has_item.true) in
    sym (append-nil _)
    ∙ ap (λ l. string_bytes c.args.text.now ++ l)
    (sym (otherwise_part c.args.part.now _ _ c.in-Otherwise.is vs ∙ some_items (items_of (string_bytes c.in-Otherwise.name) vs) _ found))

pub returns-after-loop-value : goal.returns-after-loop-value
returns-after-loop-value t c =
    no_value _ _ c.args.values.now c.loop-value.value-index _ _ (omega arith) c.loop-value.invariant
    ∙ ap (λ l. string_bytes c.args.text.now ++ l) (sym (each_part c.args.part.now _ _ c.in-Each.is (values_view c.args.values.now)))

pub returns-after-loop-other : goal.returns-after-loop-other
returns-after-loop-other t c =
    let vs = values_view c.args.values.now in
    let none = ap (λ n. has_items (items_of n vs)) (sym c.as_str-in-Otherwise.ensures.value) ∙ (sym c.has_item.ensures ∙ c.if-has_item.false) in
    no_part c.deref-other-items.result.now c.loop-other.other-index vs _ _ (omega arith) c.loop-other.invariant
    ∙ ap (λ l. string_bytes c.args.text.now ++ l)
    (ap (λ l. parts_text (parts_view l) vs) c.deref-other-items.ensures.value
    ∙ sym (otherwise_part c.args.part.now _ _ c.in-Otherwise.is vs ∙ no_items (items_of (string_bytes c.in-Otherwise.name) vs) _ none))
