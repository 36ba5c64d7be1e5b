use Rattle.std.proofs.Common.{arith}
use Rattle.run_events.proofs.SubRunIds.{written_alone, written_id}
use Rattle.run_events.proofs.progress.StressProgress.unique_id.Goals as goal

pub returns-clause-text : goal.returns-clause-text
returns-clause-text c = written_id c.format.result c.args.run_id _ _ c.completed-completed.ensures c.format.ensures.ok

pub returns-clause-tells_apart : goal.returns-clause-tells_apart
returns-clause-tells_apart c =
    let id = rw c.as_bytes.ensures at c.greatest_of-greatest.ensures in
    written_alone c.format.result c.args.run_id _ id (omega arith) (written_id c.format.result _ _ _ c.completed-completed.ensures c.format.ensures.ok)
