-- Definitions that no promise of the program reaches: for single functions, and for proofs.
pub mod Agreement
pub mod PathLaws
pub mod Paths
pub mod Fault
