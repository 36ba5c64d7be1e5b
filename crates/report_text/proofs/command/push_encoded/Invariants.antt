use Rattle.std.proofs.Common.{◌≡◌, ◌++◌, false}
use Rattle.std.specs.Str.{chars}
use Rattle.report_text.specs.Command.{encoded}
use Rattle.report_text.specs.declared.line.Mark.TheVariants.{Nothing}
use Rattle.report_text.proofs.command.push_encoded.Given as goal

abbrev pub invariant-loop-c : goal.invariant-loop-c
invariant-loop-c l = l.text.failed ≡ false → (l.initial.text.failed ≡ false) × (l.text.text ++ encoded l.in_property l.mark (chars l.c-iterator.rest.now)
    ≡ l.initial.text.text ++ encoded l.in_property Nothing (chars l.value))
