use Rattle.std.proofs.Common.{refl}
use Rattle.template.proofs.Parsing.{sections_more}
use Rattle.template.proofs.parse.Parsed.begin_section.Goals as goal

pub returns : goal.returns
returns c = rw (sections_more _ _ _ c.in_ok-push.ensures.items, c.new.ensures.items, c.new-2.ensures.bytes) refl
