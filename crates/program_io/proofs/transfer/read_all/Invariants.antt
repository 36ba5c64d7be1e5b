use Rattle.std.proofs.Common.{◌≡◌, ◌-◌, ◌^◌, false, vec_len}
use Rattle.std.specs.Io.KnownBytes.{Consumes}
use Rattle.program_io.proofs.transfer.read_all.Given as goal

-- the bytes so far are those that were taken from the source
abbrev pub invariant-loop-n : goal.invariant-loop-n
invariant-loop-n g l = record {
  works : g.R.Source.failed l.source ≡ false;
  so_far : Consumes (g.R.Source.left l.fn.source) (g.R.Source.left l.source) l.bytes.items;
}

-- a vector has fewer than 2 ^ 64 bytes
abbrev pub decreases-loop-n : goal.decreases-loop-n
decreases-loop-n g l = 2 ^ 64 - vec_len l.bytes
