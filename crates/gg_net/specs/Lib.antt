pub mod Network
pub mod Refusal
pub mod Step
pub mod Kept
pub mod Net
pub mod markings
pub mod inside
