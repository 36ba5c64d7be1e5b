use Rattle.run_digest_engine.proofs.Entries.{entry_is_text, entry_reads}
use Rattle.run_digest_engine.proofs.Exact.{reads_none}
use Rattle.run_digest_engine.proofs.entry.parse_entry.Goals as goal

pub returns-in-Ok : goal.returns-in-Ok
returns-in-Ok c = rw (c.new.ensures, c.in-Ok.ensures.cases.0) at c.parse_words.ensures

pub returns-in-Err : goal.returns-in-Err
returns-in-Err c = reads_none _ _ (entry_reads c.args.line.now) (λ entry is. c.in-Err.ensures.cases.0 (entry_is_text c.args.line.now entry is))
