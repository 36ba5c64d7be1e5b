use Rattle.std.proofs.Common.{◌≡◌, false, length}
use Rattle.program_io.proofs.KnownBytes.{Writing}
use Rattle.program_io.proofs.transfer.write_all.Given as goal

-- the bytes written so far are the text without its rest
abbrev pub invariant-loop-rest : goal.invariant-loop-rest
invariant-loop-rest g l = record {
  works : g.W.Sink.failed l.sink ≡ false;
  so_far : Writing (g.W.Sink.written l.fn.sink) (g.W.Sink.written l.sink) l.text l.rest;
}

abbrev pub decreases-loop-rest : goal.decreases-loop-rest
decreases-loop-rest g l = length l.rest
