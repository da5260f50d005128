pub mod Programmed
pub mod ConeValue
pub mod Slots
pub mod Right
pub mod Unset
pub mod inside
