use Rattle.std.proofs.Common.{arith}
use Rattle.std.specs.Prelude.{◌==◌}
use Rattle.std.proofs.lemmas.List.Splits.{slice_split_first, slice_split_none}
use Rattle.std.proofs.lemmas.List.Sums.{fails_before_first}
use Rattle.run_digest_engine.proofs.parts.first_part.Goals as goal

-- the text has the byte
pub returns-in-Some : goal.returns-in-Some
returns-in-Some c =
    let cut = c.in-Some.ensures.byte c.requires (λ w o found. found) in
    rw (cut.0, cut.1) (slice_split_first (λ b. b == c.args.divider) c.args.text.now 0 cut.2)

-- the text does not have the byte
pub returns-in-None : goal.returns-in-None
returns-in-None c =
    let none = c.in-None.ensures.byte c.requires (λ w o found. found) in
    slice_split_none (λ b. b == c.args.divider) c.args.text.now
    (λ k b within. fails_before_first (λ x. x == c.args.divider) c.args.text.now k b (omega (arith, none, within)))
