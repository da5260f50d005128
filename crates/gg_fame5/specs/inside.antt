-- Definitions that no promise of the program reaches: for single functions, and for proofs.
pub mod Fork
pub mod Lane
pub mod Shared
pub mod Machine
