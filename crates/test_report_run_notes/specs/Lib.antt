pub mod Finish
pub mod InOrder
pub mod Note
pub mod Texts
