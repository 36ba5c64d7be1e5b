use Rattle.std.proofs.Common.{arith}
use Rattle.std.proofs.lemmas.Grind.{common_steps}
use Rattle.unicode.specs.Perl.{is_digit_char}
use Rattle.output_slice.proofs.panic_head.characters.is_digit.Goals as goal

pub returns-then-c-ge128 : goal.returns-then-c-ge128
unfolding is_digit_char
returns-then-c-ge128 c = let f = c.for_char.ensures in let e = c.eq.ensures in grind (arith, common_steps)
