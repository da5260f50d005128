-- Definitions that no promise of the program reaches: for single functions, and for proofs.
pub mod Search
pub mod ConeValue
pub mod Programmed
pub mod Right
pub mod Slots
pub mod Unset
