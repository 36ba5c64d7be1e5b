pub mod Boundaries
pub mod InOrder
pub mod Places
