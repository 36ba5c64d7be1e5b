pub mod Hexadecimal
pub mod SubRunOrder
pub mod VisibilityLaws
