use Rattle.std.proofs.Common.{arith}
use Rattle.test_report_events.proofs.Headings.{lacks_char, program_of}
use Rattle.test_report_events.proofs.cargo.program.Goals as goal

pub returns-else-contains : goal.returns-else-contains
returns-else-contains c =
    program_of c.args.word.now c.binary_at.result (lacks_char 61 c.args.word.now (omega arith) c.if-contains.ensures.cases) c.binary_at.ensures
