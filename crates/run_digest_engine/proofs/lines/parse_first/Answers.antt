use Rattle.run_digest_engine.proofs.Exact.{reads_none}
use Rattle.run_digest_engine.proofs.Starts.{first_is_text, first_reads}
use Rattle.run_digest_engine.proofs.lines.parse_first.Goals as goal

pub returns-in_default : goal.returns-in_default
returns-in_default c =
    reads_none _ _ (first_reads c.args.line.now) (λ start is. c.in_default.ensures.cases.0 (first_is_text c.args.line.now start is))
