pub mod IsTreeOf
pub mod Held
pub mod inside
