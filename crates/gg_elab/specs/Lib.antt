pub mod Limits
pub mod ElabText
pub mod inside
