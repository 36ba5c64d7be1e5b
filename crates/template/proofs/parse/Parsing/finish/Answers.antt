use Rattle.std.proofs.Common.{ap}
use Rattle.template.proofs.Parsing.{parsed_none}
use Rattle.template.specs.Parse.{ParsedView}
use Rattle.template.proofs.parse.Parsing.finish.Goals as goal

pub returns-in-InText : goal.returns-in-InText
returns-in-InText c =
    let parsed = c.in_ok-parsed-in-InText.parsed in
    let same = ap (λ (p : ParsedView). p.sections) c.in_ok-parsed-in-InText.ensures in
    rw c.in-InText.is (parsed_none _ _ parsed.sections _ same c.is_empty.ensures c.if-is_empty.false)
