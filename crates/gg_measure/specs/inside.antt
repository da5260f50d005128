-- Definitions that no promise of the program reaches: for single functions and for proofs.
pub mod At
pub mod Nets
pub mod Turns
pub mod Ways
