pub mod Whole
pub mod text
pub mod inside
