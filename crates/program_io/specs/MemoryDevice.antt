-- Devices over memory, which fail at a chosen call.
use Rattle.std.specs.Prelude.{◌-◌, ℕ, Bool, List, Option, length, take}
use Rattle.program_io.specs.declared.memory_device.MemorySource.{MemorySource}
use Rattle.program_io.specs.declared.memory_device.MemorySink.{MemorySink}

-- the bytes that are left in a source
abbrev pub left_of : MemorySource → List ℕ
left_of s = s.bytes.now

-- the number of reads before the one that fails, or `None` if none does
abbrev pub reads_left : MemorySource → Option ℕ
reads_left s = s.calls_left

-- whether a read has failed
abbrev pub source_failed : MemorySource → Bool
source_failed s = s.failed

-- the bytes written to a sink
abbrev pub written_of : MemorySink → List ℕ
written_of s = take s.len s.buffer.now

-- the number of bytes for which a sink has room
abbrev pub room_of : MemorySink → ℕ
room_of s = length s.buffer.now - s.len

-- the number of writes and flushes before the one that fails, or `None` if none does
abbrev pub calls_left : MemorySink → Option ℕ
calls_left s = s.calls_left

-- whether a write or a flush has failed
abbrev pub sink_failed : MemorySink → Bool
sink_failed s = s.failed

-- whether the last write or flush was a flush that succeeded
abbrev pub sink_flushed : MemorySink → Bool
sink_flushed s = s.flushed
