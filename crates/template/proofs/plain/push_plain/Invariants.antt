use Rattle.std.proofs.Common.{◌≡◌, ◌++◌, string_bytes}
use Rattle.std.specs.Str.{chars}
use Rattle.template.specs.Hole.{plain_chars}
use Rattle.template.specs.Shown.{shown}
use Rattle.template.proofs.plain.push_plain.Given as goal

abbrev pub invariant-loop-c : goal.invariant-loop-c
invariant-loop-c l =
    string_bytes l.text ++ plain_chars l.before (chars (shown l.c-iterator.rest.now))
    ≡ string_bytes l.initial.text ++ plain_chars 32 (chars (shown l.value))
