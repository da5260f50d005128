pub mod Literal
pub mod Sorts
pub mod Fields
pub mod Memories
pub mod Owned
pub mod Clocks
pub mod Types
pub mod inside
