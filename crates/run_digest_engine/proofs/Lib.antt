pub mod Entries
pub mod Exact
pub mod PlainWords
pub mod Readings
pub mod Reports
pub mod Starts
