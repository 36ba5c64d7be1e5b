use Rattle.std.proofs.Common.{◌∙◌, Some, ap, false}
use Rattle.std.specs.Fmt.{digits}
use Rattle.template.specs.Hole.{plain_escape}
use Rattle.template.proofs.plain.push_plain_escape.Goals as goal

pub returns : goal.returns
unfolding plain_escape
returns c = rw (c.in_radix.ensures ∙ ap (λ code. Some (digits 16 false code)) c.from-code.ensures) at c.write.ensures.bytes
