-- Definitions that no promise of the program reaches: for single functions, and for proofs.
pub mod Fault
pub mod Lists
pub mod Walk
pub mod Graph
