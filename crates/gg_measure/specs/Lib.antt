pub mod Ways
pub mod inside
