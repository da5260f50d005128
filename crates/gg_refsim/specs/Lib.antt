pub mod Cycle
pub mod inside
