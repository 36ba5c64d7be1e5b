use Rattle.std.proofs.Common.{rules, ◌≡◌}
use Rattle.std.specs.Int.NonZero.{non_zero_usize_get}
use Rattle.run_digest_engine.proofs.extract.extracted.Goals as goal

pub returns-clause-value : goal.returns-clause-value
returns-clause-value c =
    let limit : non_zero_usize_get c.unwrap-limit.result ≡ 4096 = search rules in
    rw limit at c.heuristic_extract_capped.ensures.value

pub returns-clause-only : goal.returns-clause-only
returns-clause-only c found extract =
    let limit : non_zero_usize_get c.unwrap-limit.result ≡ 4096 = search rules in
    c.heuristic_extract_capped.ensures.only found (rw limit extract)
