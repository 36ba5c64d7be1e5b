use Rattle.run_digest_engine.proofs.Starts.{one_start}
use Rattle.run_digest_engine.proofs.laws.one_start.Goals as goal

pub returns : goal.returns
returns c = one_start
