-- Definitions that no promise of the program reaches: for single functions, and for proofs.
pub mod Kept
pub mod RunByCycles
pub mod Cycle
