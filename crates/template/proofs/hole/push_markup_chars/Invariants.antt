use Rattle.std.proofs.Common.{◌≡◌, ◌++◌, string_bytes}
use Rattle.template.specs.Hole.{markup}
use Rattle.template.specs.Shown.{shown}
use Rattle.template.proofs.hole.push_markup_chars.Given as goal

abbrev pub invariant-loop-c : goal.invariant-loop-c
invariant-loop-c l =
    string_bytes l.text ++ markup l.in_value (shown l.c-iterator.rest.now) ≡ string_bytes l.initial.text ++ markup l.in_value (shown l.value)
