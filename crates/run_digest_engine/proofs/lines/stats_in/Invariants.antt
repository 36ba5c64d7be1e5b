use Rattle.std.proofs.Common.{length}
use Rattle.run_digest_engine.specs.Reading.{texts_of}
use Rattle.run_digest_engine.proofs.Readings.{Going}
use Rattle.run_digest_engine.proofs.lines.stats_in.Given as goal

-- the lines before this one were counted, and these are left
abbrev pub invariant-loop-line : goal.invariant-loop-line
invariant-loop-line l = Going (texts_of l.fn.bytes) l.number l.runs.items l.stats l.lines

abbrev pub decreases-loop-line : goal.decreases-loop-line
decreases-loop-line l = length l.lines
