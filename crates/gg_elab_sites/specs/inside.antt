-- Definitions that no promise of the program reaches: for single functions, and for proofs.
pub mod Graph
pub mod Views
pub mod Counts
pub mod Sites
