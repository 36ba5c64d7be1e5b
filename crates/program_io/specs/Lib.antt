pub mod Engine
pub mod Fault
pub mod MemoryCalls
pub mod MemoryDevice
pub mod StdDevice
pub mod Transfer
