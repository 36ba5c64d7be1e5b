-- Readers and writers of `std` as devices.
use Rattle.std.specs.Prelude.{Bool}
use Rattle.program_io.specs.declared.std_device.StdSource.{StdSource}
use Rattle.program_io.specs.declared.std_device.StdSink.{StdSink}

-- the reader of a source
abbrev pub reader_of : {R : Type 0} → StdSource R → R
reader_of s = s.reader

-- whether a read of the source has failed
abbrev pub source_failed : {R : Type 0} → StdSource R → Bool
source_failed s = s.failed

-- the writer of a sink
abbrev pub writer_of : {W : Type 0} → StdSink W → W
writer_of s = s.writer

-- whether a write or a flush of the sink has failed
abbrev pub sink_failed : {W : Type 0} → StdSink W → Bool
sink_failed s = s.failed

-- whether the sink's last write or flush was a flush that succeeded
abbrev pub sink_flushed : {W : Type 0} → StdSink W → Bool
sink_flushed s = s.flushed
