use Rattle.std.proofs.Common.{◌∙◌, arith, rules}
use Rattle.std.proofs.lemmas.Grind.{common_steps}
use Rattle.program_io.proofs.KnownBytes.{writing_more}
use Rattle.program_io.proofs.transfer.write_all.Goals as goal

pub loop-rest-preserved : goal.loop-rest-preserved
loop-rest-preserved g c = record {
  works = c.in-Ok.ensures.ok ∙ c.loop-rest.invariant.works;
  so_far = grind (
    arith,
    common_steps,
    writing_more (g.W.Sink.written c.args.sink.now) (g.W.Sink.written c.loop-rest.sink)
        (g.W.Sink.written c.write.new.self) c.args.text.now c.loop-rest.rest.now c.in-Ok.n c.loop-rest.invariant.so_far c.in-Ok.ensures.bytes,
  );
}

pub returns-in-Err-clause-bytes : goal.returns-in-Err-clause-bytes
returns-in-Err-clause-bytes g c = search rules

pub returns-in-Err-clause-flushed : goal.returns-in-Err-clause-flushed
returns-in-Err-clause-flushed g c = search rules

pub returns-in-Err-clause-write : goal.returns-in-Err-clause-write
returns-in-Err-clause-write g c = search rules
