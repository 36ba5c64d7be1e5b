use Rattle.std.proofs.Common.{◌≡◌, ◌+◌, ◌≤◌, length}
use Rattle.std.specs.Str.{chars}
use Rattle.report_text.specs.Sequence.{parameters_len}
use Rattle.report_text.proofs.Styles.{after}
use Rattle.report_text.proofs.sequence.parameters_len.Given as goal

abbrev pub invariant-loop-c : goal.invariant-loop-c
invariant-loop-c l = record {
  is : parameters_len (chars l.text) ≡ after l.n (parameters_len (chars l.rest.rest.now));
  within : l.n + length l.rest.rest.now ≤ length l.text;
}

abbrev pub decreases-loop-c : goal.decreases-loop-c
decreases-loop-c l = length l.rest.rest.now
