pub mod Codes
pub mod Layout
pub mod Status
