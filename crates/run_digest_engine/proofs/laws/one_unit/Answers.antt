use Rattle.run_digest_engine.proofs.Entries.{one_unit}
use Rattle.run_digest_engine.proofs.laws.one_unit.Goals as goal

pub returns : goal.returns
returns c = one_unit
