-- The faults of the program: their texts, their exit statuses, and the steps at which they occur.
use Rattle.std.specs.Prelude.{ℕ, List, ◌++◌, codes}
use Rattle.std.specs.Fmt.{decimal}
use Rattle.program_io.specs.Engine.{Stage, Reading, Refusing, Writing}
use Rattle.program_io.specs.declared.fault.DeviceFault.{DeviceFault}
use Rattle.program_io.specs.declared.fault.DeviceFault.TheVariants as device
use Rattle.run_digest_engine.specs.declared.fault.Fault.{Fault}
use Rattle.run_digest_engine.specs.declared.fault.Fault.TheVariants.{BadLine, BadWord, Read, Write, OutOfMemory}

-- a fault of a device, as a fault of the program
abbrev pub fault_of : DeviceFault → Fault
fault_of device.Read = Read
fault_of device.Write = Write
fault_of device.OutOfMemory = OutOfMemory

-- the earliest step of an engine at which a fault can occur; memory can also be refused later
abbrev pub stage_of : Fault → Stage
stage_of (BadLine number) = Refusing
stage_of BadWord = Refusing
stage_of Read = Reading
stage_of Write = Writing
stage_of OutOfMemory = Reading

-- the exit status after a fault
abbrev pub status_of : Fault → ℕ
status_of (BadLine number) = 2
status_of BadWord = 2
status_of Read = 3
status_of Write = 3
status_of OutOfMemory = 3

-- the displayed text of a fault
abbrev pub fault_text : Fault → List ℕ
fault_text (BadLine number) = codes "line " ++ (decimal number ++ codes ": bad line")
fault_text BadWord = codes "usage: run-digest extract|count"
fault_text Read = codes "read failed"
fault_text Write = codes "write failed"
fault_text OutOfMemory = codes "out of memory"
