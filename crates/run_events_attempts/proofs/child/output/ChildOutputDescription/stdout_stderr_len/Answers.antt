use Rattle.std.proofs.Common.{rules}
use Rattle.run_events_attempts.proofs.child.output.ChildOutputDescription.stdout_stderr_len.Goals as goal

pub returns-in-Combined : goal.returns-in-Combined
returns-in-Combined c = search rules
