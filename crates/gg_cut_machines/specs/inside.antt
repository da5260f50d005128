-- Definitions that no promise of the program reaches: for single functions, and for proofs.
pub mod Hosts
pub mod Drafted
pub mod Modelled
