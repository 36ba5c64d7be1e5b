use Rattle.std.proofs.Common.{rules}
use Rattle.program_io.proofs.memory_device.MemorySinkSink.flush.Goals as goal

pub returns-then-call_fails-clause-unsent : goal.returns-then-call_fails-clause-unsent
returns-then-call_fails-clause-unsent c = search rules

pub returns-clause-sent : goal.returns-clause-sent
returns-clause-sent c = search rules
