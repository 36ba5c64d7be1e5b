use Rattle.std.proofs.Common.{refl}
use Rattle.template.proofs.parse.Parsed.begin_name.Goals as goal

pub returns-in-35 : goal.returns-in-35
returns-in-35 c = rw (c.in-35.is, c.new-name.ensures.bytes) refl

pub returns-in-94 : goal.returns-in-94
returns-in-94 c = rw (c.in-94.is, c.new-name.ensures.bytes) refl

pub returns-in-47 : goal.returns-in-47
returns-in-47 c = rw (c.in-47.is, c.new-name.ensures.bytes) refl

pub returns-in-42 : goal.returns-in-42
returns-in-42 c = rw (c.in-42.is, c.new-name.ensures.bytes) refl
