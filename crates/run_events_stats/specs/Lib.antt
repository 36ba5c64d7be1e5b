pub mod Counters
pub mod Outcome
pub mod RunLaws
pub mod Summary
