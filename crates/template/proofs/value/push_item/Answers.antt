use Rattle.std.proofs.Common.{refl}
use Rattle.std.proofs.lemmas.List.{map-append}
use Rattle.template.proofs.Steps.{item_value}
use Rattle.template.proofs.value.push_item.Goals as goal

pub returns : goal.returns
returns c = rw (c.in_ok-push.ensures.items, map-append, item_value c.args.name c.args.item) refl
