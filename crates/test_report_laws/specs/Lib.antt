pub mod Programs
pub mod Run
pub mod Status
pub mod Whole
