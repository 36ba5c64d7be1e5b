use Rattle.std.proofs.Common.{◌∙◌, ◌∷◌, [], ◌++◌, ap}
use Rattle.report_text.specs.declared.command.PropertyName.TheVariants.{File}
use Rattle.report_text.proofs.Commands.{next-property}
use Rattle.report_text.proofs.command.push_properties.Goals as goal

pub loop-property-preserved : goal.loop-property-preserved
loop-property-preserved c = λ e.
    let second = c.push_property.ensures e in
    let first = c.add_char.ensures second.0 in
    let all = c.loop-property.invariant first.0 in (
      all.0,
      next-property c.args.properties.now c.loop-property.property-index record { name = File; value = record { ref_ptr = (0, 0); now = [] } }
          c.loop-property.first c.loop-property.text.text _ _ _ c.loop-property-test.true
          (first.1 ∙ ap (λ sign. c.loop-property.text.text ++ sign ∷ []) c.separator.ensures) second.1 all.1,
    )
