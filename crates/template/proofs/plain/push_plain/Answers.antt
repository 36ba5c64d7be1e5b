use Rattle.template.proofs.Written.{plain-end, plain-more}
use Rattle.template.specs.Hole.{plain}
use Rattle.template.proofs.plain.push_plain.Goals as goal

pub loop-c-preserved : goal.loop-c-preserved
loop-c-preserved c =
    plain-more c.loop-c.before c.in-Some.c _ _ _ _ _ c.in_ok-push_shown.ensures c.in-Some.ensures.steps.0 c.loop-c.invariant

pub returns : goal.returns
unfolding plain
returns c = plain-end c.loop-c.before _ _ _ c.in-None.ensures.steps.0.0 c.loop-c.invariant
