use Rattle.std.proofs.Common.{◌≡◌, ◌≤◌, None, length}
use Rattle.run_events_results.specs.Described.{described_result}
use Rattle.run_digest_engine.specs.Reader.{results_from, results_of}
use Rattle.run_digest_engine.proofs.units.parse_results.Given as goal

-- the rest of the list, after the results so far, has the same result as the whole list
abbrev pub invariant-loop-word : goal.invariant-loop-word
invariant-loop-word l = record {
  same : results_from l.words (described_result l.last None) l.count ≡ results_of l.fn.list;
  few : l.count ≤ 100;
}

abbrev pub decreases-loop-word : goal.decreases-loop-word
decreases-loop-word l = length l.words
