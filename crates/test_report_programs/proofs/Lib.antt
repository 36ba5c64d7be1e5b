pub mod Notes
pub mod Steps
pub mod Threads
