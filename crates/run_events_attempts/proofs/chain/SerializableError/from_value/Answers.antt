use Rattle.std.proofs.Common.{rules, Ok}
use Rattle.serde_json.specs.View.{view}
use Rattle.run_events_attempts.proofs.ChainLemmas.{reads_back_from_reads}
use Rattle.run_events_attempts.proofs.chain.SerializableError.from_value.Goals as goal

pub returns-clause-reads_back : goal.returns-clause-reads_back
returns-clause-reads_back c = λ chain is.
    reads_back_from_reads (view c.args.value.now) chain (Ok c.in_ok-error_of.field-0) is (search rules)
