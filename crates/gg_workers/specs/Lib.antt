pub mod Work
pub mod inside
