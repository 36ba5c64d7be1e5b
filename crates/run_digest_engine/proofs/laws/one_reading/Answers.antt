use Rattle.run_digest_engine.proofs.Readings.{one_reading}
use Rattle.run_digest_engine.proofs.laws.one_reading.Goals as goal

pub returns : goal.returns
returns c = one_reading
