use Rattle.template.proofs.parse.Parsing.step.Goals as goal

pub returns-in-OneBrace : goal.returns-in-OneBrace
returns-in-OneBrace c = rw c.in-OneBrace.is c.after_brace.ensures

pub returns-in-TwoBraces : goal.returns-in-TwoBraces
returns-in-TwoBraces c = rw c.in-TwoBraces.is c.begin_name.ensures

pub returns-in-InName : goal.returns-in-InName
returns-in-InName c = rw c.in-InName.is c.more_name.ensures
