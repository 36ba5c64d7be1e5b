use Rattle.std.proofs.Common.{◌≡◌, ◌++◌, drop, false, true}
use Rattle.report_text.specs.Command.{properties_text}
use Rattle.report_text.proofs.command.push_properties.Given as goal

abbrev pub invariant-loop-property : goal.invariant-loop-property
invariant-loop-property l = l.text.failed ≡ false → (l.initial.text.failed ≡ false)
    × (l.text.text ++ properties_text l.first (drop l.property-index l.properties) ≡ l.initial.text.text ++ properties_text true l.properties)
