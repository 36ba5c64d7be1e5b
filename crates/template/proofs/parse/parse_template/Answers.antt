use Rattle.std.proofs.Common.{◌∙◌, ap}
use Rattle.std.proofs.lemmas.Result.{IfOk-weaker}
use Rattle.template.proofs.Parsing.{parse_end, parse_more}
use Rattle.template.specs.Parse.{parse, parsed, parsing_view}
use Rattle.template.proofs.parse.parse_template.Goals as goal

pub loop-c-preserved : goal.loop-c-preserved
loop-c-preserved c = parse_more c.in-Some.c _ _ (parsing_view c.loop-c.state) _ _ c.in_ok-state.ensures c.in-Some.ensures.steps.0 c.loop-c.invariant

pub returns : goal.returns
unfolding parse
returns c =
    let over = parse_end c.loop-c.c-iterator.rest.now _ _ c.in-None.ensures.steps.0.0 c.loop-c.invariant in
    IfOk-weaker c.finish.result _ _ (λ o h. h ∙ ap parsed over) c.finish.ensures
