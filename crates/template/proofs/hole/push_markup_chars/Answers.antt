use Rattle.std.proofs.Common.{◌∙◌}
use Rattle.template.proofs.Written.{markup-end, markup-more}
use Rattle.template.proofs.hole.push_markup_chars.Goals as goal

pub loop-c-preserved : goal.loop-c-preserved
loop-c-preserved c =
    markup-more c.args.in_value c.in-Some.c _ _ _ _ c.in_ok-push_markup_char.ensures c.in-Some.ensures.steps.0 ∙ c.loop-c.invariant

pub returns : goal.returns
returns c = markup-end c.args.in_value _ _ _ c.in-None.ensures.steps.0.0 c.loop-c.invariant
