use Rattle.std.proofs.Common.{rules}
use Rattle.output_slice.proofs.byte_source.CountedBytesByteSource.byte.Goals as goal

pub returns-clause-counted : goal.returns-clause-counted
returns-clause-counted c = search rules
