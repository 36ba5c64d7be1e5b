pub mod Counting
pub mod Counts
pub mod Parts
pub mod SubRuns
pub mod SuccessLaws
pub mod Verdicts
