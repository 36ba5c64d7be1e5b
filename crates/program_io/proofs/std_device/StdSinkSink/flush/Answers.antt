use Rattle.std.proofs.Common.{rules}
use Rattle.program_io.proofs.std_device.StdSinkSink.flush.Goals as goal

pub returns-in-Err-clause-unsent : goal.returns-in-Err-clause-unsent
returns-in-Err-clause-unsent g c = search rules

pub returns-in-Ok-clause-sent : goal.returns-in-Ok-clause-sent
returns-in-Ok-clause-sent g c = search rules
