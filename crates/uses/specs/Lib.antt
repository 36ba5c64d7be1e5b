pub mod Displayer
pub mod ExitStatus
pub mod Junit
pub mod Recorder
pub mod Runner
