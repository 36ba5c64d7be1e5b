use Rattle.std.proofs.Common.{refl}
use Rattle.std.proofs.lemmas.List.{map-append}
use Rattle.template.proofs.Steps.{text_value}
use Rattle.template.proofs.value.push_text.Goals as goal

pub returns : goal.returns
returns c = rw (c.in_ok-push.ensures.items, map-append, text_value c.args.name c.args.text) refl
