use Rattle.std.proofs.Common.{◌≡◌, ◌<◌, ◌^◌, take}
use Rattle.run_digest_engine.specs.Reader.{value_of_digits}
use Rattle.run_digest_engine.proofs.words.value_of.Given as goal

-- the value of the digits so far
abbrev pub invariant-loop-digit : goal.invariant-loop-digit
invariant-loop-digit l = record {
  value : l.value ≡ value_of_digits (take l.digit-index l.digits);
  small : l.value < 10 ^ l.digit-index;
}
