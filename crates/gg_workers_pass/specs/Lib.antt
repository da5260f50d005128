pub mod Tries
pub mod Pass
pub mod inside
