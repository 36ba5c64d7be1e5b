use Rattle.std.proofs.Common.{arith}
use Rattle.test_report_events.proofs.Headings.{file_after, file_whole, separators}
use Rattle.test_report_events.proofs.cargo.file_name.Goals as goal

pub returns-in-Some : goal.returns-in-Some
returns-in-Some c = let h = c.in-Some.ensures.cases in file_after c.args.path.now _ h.0 h.1 (h.2 _ separators) (omega (arith, h.7)) h.4

pub returns-in-None : goal.returns-in-None
returns-in-None c = file_whole c.args.path.now (c.in-None.ensures.cases _ separators)
