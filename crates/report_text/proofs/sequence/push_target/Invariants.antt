use Rattle.std.proofs.Common.{◌≡◌, ◌++◌, drop, false}
use Rattle.report_text.specs.Sequence.{target_text}
use Rattle.report_text.proofs.sequence.push_target.Given as goal

abbrev pub invariant-loop-byte : goal.invariant-loop-byte
invariant-loop-byte l = l.text.failed ≡ false → (l.initial.text.failed ≡ false)
    × (l.text.text ++ target_text (drop l.byte-index l.target) ≡ l.initial.text.text ++ target_text l.target)
