use Rattle.run_digest_engine.proofs.Entries.{one_entry}
use Rattle.run_digest_engine.proofs.laws.one_entry.Goals as goal

pub returns : goal.returns
returns c = one_entry
