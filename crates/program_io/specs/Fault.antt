-- The texts of the faults of devices.
use Rattle.std.specs.Prelude.{ℕ, List, codes}
use Rattle.program_io.specs.declared.fault.DeviceFault.{DeviceFault}
use Rattle.program_io.specs.declared.fault.DeviceFault.TheVariants.{Read, Write, OutOfMemory}

-- the displayed text of a fault
abbrev pub fault_text : DeviceFault → List ℕ
fault_text Read = codes "read failed"
fault_text Write = codes "write failed"
fault_text OutOfMemory = codes "out of memory"
