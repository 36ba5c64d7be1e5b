use Rattle.std.proofs.Common.{◌≡◌, ◌||◌, ◌++◌, false, length}
use Rattle.std.specs.Str.{chars}
use Rattle.report_text.specs.Shown.{ends, has_kept, pushed}
use Rattle.report_text.proofs.shown.push_shown.Given as goal

-- what is left, pushed after what was written, is the whole
abbrev pub invariant-loop-c : goal.invariant-loop-c
invariant-loop-c l = record {
  text : l.text.failed ≡ false → (l.initial.text.failed ≡ false) × (l.text.text ++ pushed l.rules l.line 0 (chars l.rest.rest.now)
      ≡ l.initial.text.text ++ pushed l.rules l.fn.start 0 (chars l.shown));
  line : ends l.rules l.line 0 (chars l.rest.rest.now) ≡ ends l.rules l.fn.start 0 (chars l.shown);
  colours : (l.has_style || has_kept l.rules (chars l.rest.rest.now)) ≡ has_kept l.rules (chars l.shown);
}

abbrev pub decreases-loop-c : goal.decreases-loop-c
decreases-loop-c l = length l.rest.rest.now
