pub mod Line
pub mod Sequence
pub mod Shown
pub mod Command
pub mod Safe
